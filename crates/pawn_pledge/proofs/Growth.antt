-- The lists of a pledge grow at their ends.
use Rattle.pawn_pledge.proofs.Moves.{Move, pledge_moves, Entering, Declaring, Extending, Settling}
use Rattle.pawn_pledge.specs.Common.{Entry}
use Rattle.pawn_pledge.specs.Growth.{Grows, StaysOrGrows}
use Rattle.pawn_pledge.specs.Laws.{ListsGrow}
use Rattle.pawn_pledge.specs.Pledge.{PledgeValue, end_of}
use Rattle.pawn_pledge.specs.Step.{Answered, Changed, StepResult, Refused, pledge_after, pledge_step}
use Rattle.pawn_pledge.specs.Words.{issue_of, new_entry}
use Rattle.pawn_pledge.specs.declared.command.Command.{Command}
use Rattle.pawn_pledge.specs.declared.command.Stamp.{Stamp}
use Rattle.pawn_pledge.specs.declared.record.Extension.{Extension}
use Rattle.pawn_pledge.specs.declared.record.Issued.{Issued}
use Rattle.std.proofs.Common.{◌≡◌, ℕ, ◌+◌, ◌<◌, ◌==◌, false, List, [], ◌∷◌, ◌++◌, length, refl, sym, ap, ◌∙◌, inl, inr}
use Rattle.std.proofs.Common.{append_assoc, append-nil}
use Rattle.std.specs.List.{list_any}

-- each list stays the same, or grows at its end by one
pub record ListsMoved (p q : PledgeValue) (w x : ℕ) : Type 0 where
  pub entries : StaysOrGrows (λ (e : Entry). (e.seq ≡ length p.entries + 1) × (e.day ≡ x)) p.entries q.entries
  pub secrets : StaysOrGrows (λ (i : Issued). (i.secret ≡ w) × (list_any (λ (j : Issued). j.secret == w) p.secrets ≡ false)) p.secrets q.secrets
  pub extensions : StaysOrGrows (λ (e : Extension). (e.day ≡ x) × (end_of p < e.until)) p.extensions q.extensions

pub lists-moved : (p q : PledgeValue) (c : Command) (w x : ℕ) → Move p x w c q → ListsMoved p q w x
lists-moved p q c w x (Entering sort pence ok late few drawn is) = record {
  entries = inr (new_entry p x sort pence, ap (λ (v : PledgeValue). v.entries) is, (refl, refl));
  secrets = inl (ap (λ (v : PledgeValue). v.secrets) is);
  extensions = inl (ap (λ (v : PledgeValue). v.extensions) is);
}
lists-moved p q c w x (Declaring paper ok is) = record {
  entries = inl (ap (λ (v : PledgeValue). v.entries) is);
  secrets = inr (record { day = x; sort = issue_of paper; secret = w }, ap (λ (v : PledgeValue). v.secrets) is, (refl, ok.1.1.0));
  extensions = inl (ap (λ (v : PledgeValue). v.extensions) is);
}
lists-moved p q c w x (Settling s to is) = record {
  entries = inl (ap (λ (v : PledgeValue). v.entries) is);
  secrets = inl (ap (λ (v : PledgeValue). v.secrets) is);
  extensions = inl (ap (λ (v : PledgeValue). v.extensions) is);
}
lists-moved p q c w x (Extending until inside longer few named is) = record {
  entries = inl (ap (λ (v : PledgeValue). v.entries) is);
  secrets = inl (ap (λ (v : PledgeValue). v.secrets) is);
  extensions = inr (record { day = x; until = until }, ap (λ (v : PledgeValue). v.extensions) is, (refl, longer));
}

-- a list that stays or grows by one has its old elements in front
abbrev Front : {A : Type 0} → List A → List A → Type 0
Front old new = (more : List _) × (new ≡ old ++ more)

front-same : {A : Type 0} (old new : List A) → new ≡ old → Front old new
front-same old new is = ([], is ∙ sym (append-nil old))

front-of : {A : Type 0} (P : A → Type 0) (old new : List A) → StaysOrGrows P old new → Front old new
front-of P old new (inl same) = front-same old new same
front-of P old new (inr more) = (more.0 ∷ [], more.1)

front-then : {A : Type 0} (xs ys zs : List A) → Front xs ys → Front ys zs → Front xs zs
front-then xs ys zs f g = (f.0 ++ g.0, g.1 ∙ ap (λ l. l ++ g.0) f.1 ∙ append_assoc xs f.0 g.0)

pub grows-same : (p : PledgeValue) → Grows p p
grows-same p = record {
  entries = front-same p.entries p.entries refl;
  secrets = front-same p.secrets p.secrets refl;
  extensions = front-same p.extensions p.extensions refl;
}

pub grows-then : (p q r : PledgeValue) → Grows p q → Grows q r → Grows p r
grows-then p q r f g = record {
  entries = front-then p.entries q.entries r.entries f.entries g.entries;
  secrets = front-then p.secrets q.secrets r.secrets f.secrets g.secrets;
  extensions = front-then p.extensions q.extensions r.extensions f.extensions g.extensions;
}

pub grows-moved : (p q : PledgeValue) (w x : ℕ) → ListsMoved p q w x → Grows p q
grows-moved p q w x m = record {
  entries = front-of _ p.entries q.entries m.entries;
  secrets = front-of _ p.secrets q.secrets m.secrets;
  extensions = front-of _ p.extensions q.extensions m.extensions;
}

pub grows-step : (p : PledgeValue) (stamp : Stamp) (c : Command) (j : StepResult) → pledge_step p stamp c ≡ j → Grows p (pledge_after p j)
grows-step p stamp c (Refused why) is = grows-same p
grows-step p stamp c (Answered done) is = grows-same p
grows-step p stamp c (Changed q d) is = grows-moved p q stamp.word stamp.day (lists-moved p q c stamp.word stamp.day (pledge_moves p q stamp c d is).1)

pub lists_grow : ListsGrow
lists_grow p [] = grows-same p
lists_grow p (c ∷ cs) =
    let q = pledge_after p (pledge_step p c.0 c.1) in
    grows-then p q _ (grows-step p c.0 c.1 (pledge_step p c.0 c.1) refl) (lists_grow q cs)
