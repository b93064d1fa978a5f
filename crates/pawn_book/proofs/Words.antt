-- The secrets of a pledge stay words.
use Rattle.pawn_base.proofs.ListLemmas.{Each-push}
use Rattle.pawn_book.specs.Common.{Changed, Command, Done, Issued, PledgeValue, Stamp, StaysOrGrows, list_any}
use Rattle.pawn_book.specs.Common.{pledge_step}
use Rattle.pawn_book.specs.Sound.{AreWords, IsWord}
use Rattle.pawn_pledge.proofs.Steps.{lists_of_step}
use Rattle.std.proofs.Common.{◌≡◌, ℕ, ◌==◌, List, false, subst, sym, inl, inr}

-- a secret that is added is the stamp's word
grown_words : (old new : List Issued) (word : ℕ) → IsWord word → AreWords old
    → StaysOrGrows (λ (i : Issued). (i.secret ≡ word) × (list_any (λ (j : Issued). j.secret == word) old ≡ false)) old new → AreWords new
grown_words old new word is words (inl same) = subst AreWords (sym same) words
grown_words old new word is words (inr more) =
    subst AreWords (sym more.1) (Each-push (λ (i : Issued). IsWord i.secret) old more.0 words (subst IsWord (sym more.2.0) is))

pub words_moved : (p q : PledgeValue) (stamp : Stamp) (c : Command) (d : Done) → IsWord stamp.word → AreWords p.secrets → pledge_step p stamp c ≡ Changed q d
    → AreWords q.secrets
words_moved p q stamp c d word words step = grown_words p.secrets q.secrets stamp.word word words (lists_of_step p q stamp c d step).secrets
