-- A sound host stays sound when a sound book is set in it.
pub use Rattle.pawn_book.proofs.SoundLists.{absurd_none, some_is}
use Rattle.pawn_base.proofs.ListLemmas.{Each-push}
use Rattle.pawn_book.proofs.SoundLists.{each_under_more, references_push, versions_push}
use Rattle.pawn_book.specs.BookStep.{BookValue, filled_book, made_book, pledge_from, pledge_in, put_from}
use Rattle.pawn_book.specs.BookStep.{with_reference}
use Rattle.pawn_book.specs.Books.{BookRows, NewBook}
use Rattle.pawn_book.specs.Common.{DoNotFall, Each, IsChecked, IsNumber, IsReachable, IsText, IsUtf8, PledgeValue}
use Rattle.pawn_book.specs.Common.{Rates}
use Rattle.pawn_book.specs.HostStep.{Host, with_book}
use Rattle.pawn_book.specs.Keeping.{HasTermsOf}
use Rattle.pawn_book.specs.Limits.{IsCapacity, most_name_bytes, most_pledges, most_terms}
use Rattle.pawn_book.specs.Rows.{AreDistinct, AreNumberedFrom, AreReplayable, IsUnder, references_of, version_of}
use Rattle.pawn_book.specs.Sound.{AreSound, HasTextsAndWords, IsSound, IsSoundAt, IsSoundBook, IsWord}
use Rattle.pawn_pledge.specs.Brief.{brief_of}
use Rattle.std.proofs.Common.{◌≡◌, ◌≢◌, ℕ, ◌+◌, ◌<◌, ◌≤◌, List, [], ◌∷◌, ◌++◌, length, Some, None, suc, refl, ◌∙◌, ap}
use Rattle.std.proofs.Common.{sym, subst, arith, length-append, if◌then◌else◌, Option, Bool, true, false, ◌==◌}
use Rattle.std.proofs.lemmas.Bool.Decides.{nat_tests}
use Rattle.std.proofs.lemmas.Cmp.{nat_cmp_total}
use Rattle.std.specs.Cmp.{unsigned_tied}
use Rattle.std.specs.FinMap.{get, get-insert}

-- the book at a number, after a book is set
pub get-with_book : (h : Host) (b : ℕ) (book : BookValue) (q : ℕ) → get (with_book h b (Some book)).books q ≡ (if q == b then Some book else get h.books q)
get-with_book h b book q = get-insert nat_cmp_total h.books b book q ∙ ap (λ v. if v then Some book else get h.books q) (unsigned_tied q b)

pub sound_with : (h : Host) (b : ℕ) (book : BookValue) → AreSound h → IsSoundAt b book → AreSound (with_book h b (Some book))
sound_with h b book sound one q other is = from (q == b) refl (sym (get-with_book h b book q) ∙ is) where
  from : (v : Bool) → (q == b) ≡ v → (if v then Some book else get h.books q) ≡ Some other → IsSoundAt q other
  from true here is =
      let same : q ≡ b = grind (arith, nat_tests, here) in
      (subst IsNumber (sym same) one.0, subst IsSoundBook (some_is book other is) one.1)
  from false apart is = sound q other is

pub sound_made : (new : NewBook) → IsWord new.key → IsUtf8 new.name → IsText most_name_bytes new.name → IsCapacity new.capacity → IsSoundBook (made_book new)
sound_made new key utf8 name capacity = record {
  key = key;
  imported = tt;
  utf8 = utf8;
  name = name;
  capacity = capacity;
  rows = record {
    numbered = tt;
    reachable = tt;
    references = tt;
    under = tt;
    versions = tt;
    checked = tt;
    few_terms = omega arith;
    few_pledges = omega arith;
  };
  texts_and_words = tt;
}

-- a sound book that is filled with replayable rows is sound
pub sound_filled : (book : BookValue) (key : ℕ) (rows : BookRows) → IsSoundBook book → IsWord key → Each HasTextsAndWords rows.pledges
    → AreReplayable rows.terms rows.pledges → IsSoundBook (filled_book book key rows)
sound_filled book key rows sound word written replayable = record {
  key = sound.key;
  imported = word;
  utf8 = sound.utf8;
  name = sound.name;
  capacity = sound.capacity;
  rows = replayable;
  texts_and_words = written;
}

pub sound_terms : (book : BookValue) (terms : Rates) → IsSoundBook book → IsChecked terms → length book.terms < most_terms
    → IsSoundBook (record book { terms = book.terms ++ terms ∷ [] })
sound_terms book terms sound checked few = record {
  key = sound.key;
  imported = sound.imported;
  utf8 = sound.utf8;
  name = sound.name;
  capacity = sound.capacity;
  rows = record {
    numbered = sound.rows.numbered;
    reachable = sound.rows.reachable;
    references = sound.rows.references;
    under = each_under_more book.terms terms book.pledges sound.rows.under;
    versions = sound.rows.versions;
    checked = Each-push IsChecked book.terms terms sound.rows.checked checked;
    few_terms = omega (arith, few, length-append book.terms (terms ∷ []));
    few_pledges = sound.rows.few_pledges;
  };
  texts_and_words = sound.texts_and_words;
}

pub numbered_put : (k : ℕ) (ps : List PledgeValue) (n : ℕ) (p : PledgeValue) → AreNumberedFrom k ps → p.agreement.number ≡ n → k ≤ n → n ≤ k + length ps
    → AreNumberedFrom k (put_from k ps n p)
numbered_put k [] n p all named low high = let is : n ≡ k = omega arith in (named ∙ is, tt)
numbered_put k (r ∷ ps) n p all named low high =
    elim (n == k) as (λ v. n == k ≡ v → AreNumberedFrom k (if v then p ∷ ps else r ∷ put_from (k + 1) ps n p)) [
      | true ↦ λ e. let is : n ≡ k = grind (arith, nat_tests, e) in (named ∙ is, all.1)
      | false ↦ λ e. let ne : n ≢ k = grind (arith, nat_tests, e) in let more : k + 1 ≤ n = omega arith in let less : n ≤ (k + 1) + length ps = omega arith in
          (all.0, numbered_put (k + 1) ps n p all.1 named more less)
    ] refl

pub each_put : (P : PledgeValue → Type 0) (k : ℕ) (ps : List PledgeValue) (n : ℕ) (p : PledgeValue) → Each P ps → P p → Each P (put_from k ps n p)
each_put P k [] n p all one = (one, tt)
each_put P k (r ∷ ps) n p all one =
    elim (n == k) as
    (λ v. Each P (if v then p ∷ ps else r ∷ put_from (k + 1) ps n p)) [ true ↦ (one, all.1) | false ↦ (all.0, each_put P (k + 1) ps n p all.1 one) ]

-- the next pledge is added at the end
pub put_next : (k : ℕ) (ps : List PledgeValue) (n : ℕ) (p : PledgeValue) → n ≡ k + length ps → put_from k ps n p ≡ ps ++ p ∷ []
put_next k [] n p is = refl
put_next k (r ∷ ps) n p is =
    let past : n ≢ k = λ same. absurd (omega (arith, same, is)) in
    let no : (n == k) ≡ false = grind (arith, nat_tests, past) in
    let rest : n ≡ (k + 1) + length ps = omega (arith, is) in
    ap (λ v. if v then p ∷ ps else r ∷ put_from (k + 1) ps n p) no ∙ ap (λ qs. r ∷ qs) (put_next (k + 1) ps n p rest)

-- a changed pledge of the book keeps the number of pledges
pub length-put : (k : ℕ) (ps : List PledgeValue) (n : ℕ) (p : PledgeValue) → k ≤ n → n < k + length ps → length (put_from k ps n p) ≡ length ps
length-put k [] n p low high = absurd (omega arith)
length-put k (r ∷ ps) n p low high =
    elim (n == k) as (λ v. n == k ≡ v → length (if v then p ∷ ps else r ∷ put_from (k + 1) ps n p) ≡ length (r ∷ ps)) [
      | true ↦ λ e. refl
      | false ↦ λ e. let ne : n ≢ k = grind (arith, nat_tests, e) in let more : k + 1 ≤ n = omega arith in let less : n < (k + 1) + length ps = omega arith in
          ap suc (length-put (k + 1) ps n p more less)
    ] refl

-- a pledge that may be taken next: under a new reference and the newest terms
pub record IsNext (book : BookValue) (p : PledgeValue) : Type 0 where
  pub number : p.agreement.number ≡ length book.pledges + 1
  pub reference : with_reference book.pledges p.agreement.opening.reference ≡ None
  pub version : p.agreement.version ≡ length book.terms
  pub under : IsUnder book.terms p
  pub few : length book.pledges < most_pledges

-- a book with one more pledge
pub sound_next : (book : BookValue) (p : PledgeValue) → IsSoundBook book → IsNext book p → IsReachable p → HasTextsAndWords p
    → IsSoundBook (record book { pledges = put_from 1 book.pledges p.agreement.number p })
sound_next book p sound is_next reaches written =
    let named = is_next.number in
    let few = is_next.few in
    let low : 1 ≤ p.agreement.number = omega (arith, named) in
    let high : p.agreement.number ≤ 1 + length book.pledges = omega (arith, named) in
    let next : p.agreement.number ≡ 1 + length book.pledges = omega (arith, named) in
    let pushed = put_next 1 book.pledges p.agreement.number p next in
    record {
      key = sound.key;
      imported = sound.imported;
      utf8 = sound.utf8;
      name = sound.name;
      capacity = sound.capacity;
      rows = record {
        numbered = numbered_put 1 book.pledges p.agreement.number p sound.rows.numbered refl low high;
        reachable = each_put IsReachable 1 book.pledges p.agreement.number p sound.rows.reachable reaches;
        references = subst (λ ps. AreDistinct (references_of ps)) (sym pushed) (references_push book.pledges p sound.rows.references is_next.reference);
        under = each_put (IsUnder book.terms) 1 book.pledges p.agreement.number p sound.rows.under is_next.under;
        versions = subst (λ ps. DoNotFall version_of 0 ps) (sym pushed)
            (versions_push 0 book.terms book.pledges p sound.rows.under sound.rows.versions (omega arith) is_next.version);
        checked = sound.rows.checked;
        few_terms = sound.rows.few_terms;
        few_pledges = omega (arith, few, ap length pushed, length-append book.pledges (p ∷ []));
      };
      texts_and_words = each_put HasTextsAndWords 1 book.pledges p.agreement.number p sound.texts_and_words written;
    }

pub each_at : (P : PledgeValue → Type 0) (k : ℕ) (ps : List PledgeValue) (n : ℕ) (p : PledgeValue) → Each P ps → pledge_from k ps n ≡ Some p → P p
each_at P k [] n p all is = absurd_none is
each_at P k (r ∷ ps) n p all is =
    elim (n == k) as (λ v. (if v then Some r else pledge_from (k + 1) ps n) ≡ Some p → P p) [
      | true ↦ λ here. subst P (some_is r p here) all.0
      | false ↦ λ there. each_at P (k + 1) ps n p all.1 there
    ] is

pub numbered_at : (k : ℕ) (ps : List PledgeValue) (n : ℕ) (p : PledgeValue) → AreNumberedFrom k ps → pledge_from k ps n ≡ Some p → p.agreement.number ≡ n
numbered_at k [] n p all is = absurd_none is
numbered_at k (r ∷ ps) n p all is =
    elim (n == k) as (λ v. n == k ≡ v → (if v then Some r else pledge_from (k + 1) ps n) ≡ Some p → p.agreement.number ≡ n) [
      | true ↦ λ same here. ap (λ (q : PledgeValue). q.agreement.number) (sym (some_is r p here)) ∙ all.0 ∙ sym (grind (arith, nat_tests, same))
      | false ↦ λ other there. numbered_at (k + 1) ps n p all.1 there
    ] refl is

-- a pledge of a sound host is reachable, and has its number
pub reachable_at : (h : Host) (b n : ℕ) (p : PledgeValue) → IsSound h → pledge_in (get h.books b) n ≡ Some p → IsReachable p × (p.agreement.number ≡ n)
reachable_at h b n p sound is = from (get h.books b) refl is where
  from : (o : Option BookValue) → get h.books b ≡ o → pledge_in o n ≡ Some p → IsReachable p × (p.agreement.number ≡ n)
  from None e is = absurd_none is
  from (Some book) e is =
      let one = (sound.books b book e).1 in
      (each_at IsReachable 1 book.pledges n p one.rows.reachable is, numbered_at 1 book.pledges n p one.rows.numbered is)

-- the terms in the brief of a pledge of a sound host are those of its book
pub has_terms : (h : Host) (b n : ℕ) (p : PledgeValue) → IsSound h → pledge_in (get h.books b) n ≡ Some p → HasTermsOf (get h.books b) (brief_of p)
has_terms h b n p sound is = from (get h.books b) refl is where
  from : (o : Option BookValue) → get h.books b ≡ o → pledge_in o n ≡ Some p → HasTermsOf o (brief_of p)
  from None e is = absurd_none is
  from (Some book) e is = each_at (IsUnder book.terms) 1 book.pledges n p ((sound.books b book e).1).rows.under is
