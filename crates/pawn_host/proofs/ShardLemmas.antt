-- The law of shards in bytes.
use Rattle.pawn_book.proofs.Sounds.{absurd_none, some_is}
use Rattle.pawn_host.proofs.HeadlineLemmas.{equal_book_traces_answer_alike}
use Rattle.pawn_host.proofs.LawLemmas.{cons_head, cons_tail}
use Rattle.pawn_host.specs.Common.{SaysRequest, Stamp, concat}
use Rattle.pawn_host.specs.Run.{Item, input_of}
use Rattle.pawn_host.specs.Shards.{HandedSplits, HandsToShards, IsFor, IsPlaced, RequestsArePlaced, ShardsReplyAsOne}
use Rattle.pawn_host.specs.Shards.{bytes_of, inputs}
use Rattle.pawn_host.specs.Split.{PassesOver}
use Rattle.std.proofs.Common.{◌≡◌, ℕ, zero, suc, List, [], ◌∷◌, take, inl, inr, refl, ◌∙◌, ap, sym, subst, Ok}

-- if whole requests arrive, a shard gets a stream of whole requests
pub handed_splits : HandedSplits
handed_splits shard k [] part stream rest passes none = subst (λ (p : List (Stamp × List ℕ)). PassesOver (concat (bytes_of p)) (bytes_of p) []) (sym none) refl
handed_splits shard k (came ∷ all) part stream rest passes (inl (mine, (more, is, hands))) =
    subst (λ (p : List (Stamp × List ℕ)). PassesOver (concat (bytes_of p)) (bytes_of p) []) (sym is)
    (concat (bytes_of more), refl, passes.2, handed_splits shard k all more passes.0 rest passes.3 hands)
handed_splits shard k (came ∷ all) part stream rest passes (inr (other, hands)) = handed_splits shard k all part passes.0 rest passes.3 hands

-- the item after the first
next : (shard : ℕ → ℕ) (k : ℕ) (x t : Item) (all part : List Item) (i : ℕ) (item : Item) → IsFor shard k x.bytes → input_of t ≡ input_of x
    → IsPlaced shard k all part i item → IsPlaced shard k (x ∷ all) (t ∷ part) (suc i) item
next shard k x t all part i item mine same placed = record {
  place = suc placed.place;
  twin = placed.twin;
  found = placed.found;
  same = placed.same;
  before = inl (mine, (inputs (take placed.place part), (λ j. same j ∷ inputs (take placed.place part)), placed.before));
}

-- each request has a place among the requests that its shard gets
pub requests_are_placed : RequestsArePlaced
requests_are_placed shard k [] part hands i item is mine = absurd_none is
requests_are_placed shard k (x ∷ all) [] (inl (for, (more, is, hands))) i item at mine = absurd cc
requests_are_placed shard k (x ∷ all) (t ∷ part) (inl (for, (more, is, hands))) zero item at mine = record {
  place = zero;
  twin = t;
  found = refl;
  same = cons_head (input_of t) (input_of x) (inputs part) more is ∙ ap input_of (some_is x item at);
  before = refl;
}
requests_are_placed shard k (x ∷ all) (t ∷ part) (inl (for, (more, is, hands))) (suc i) item at mine =
    let rest : HandsToShards shard k (inputs all) (inputs part) =
    subst (HandsToShards shard k (inputs all)) (sym (cons_tail (input_of t) (input_of x) (inputs part) more is)) hands in
    next shard k x t all part i item for (cons_head (input_of t) (input_of x) (inputs part) more is) (requests_are_placed shard k all part rest i item at mine)
requests_are_placed shard k (x ∷ all) part (inr (other, hands)) zero item at mine =
    absurd (other (subst (λ (y : Item). IsFor shard k y.bytes) (sym (some_is x item at)) mine))
requests_are_placed shard k (x ∷ all) part (inr (other, hands)) (suc i) item at mine =
    let placed = requests_are_placed shard k all part hands i item at mine in
    record { place = placed.place; twin = placed.twin; found = placed.found; same = placed.same; before = inr (other, placed.before) }

pub shards_answer_as_one : ShardsReplyAsOne
shards_answer_as_one shard k own one operator all part marked also hands i item placed request answer other is read mine told also_told settled other_settled
    begins same =
    let twin_read : SaysRequest placed.twin.bytes (Ok request) = subst (λ (c : Stamp × List ℕ). SaysRequest c.1 (Ok request)) (sym placed.same) read in
    equal_book_traces_answer_alike own one operator part all also marked placed.place i placed.twin item answer other
    placed.found told is also_told request twin_read read (ap (λ (c : Stamp × List ℕ). c.0) placed.same) settled other_settled begins same
