-- One part of a transaction after another.
use Rattle.one_table.proofs.Parts.{kept_then}
use Rattle.one_table.specs.Lending.{IsLent, Rests}
use Rattle.sqlite.proofs.StateLemmas.{survives_then}
use Rattle.sqlite.specs.State.{State, HasCleanDisk}
use Rattle.std.proofs.Common.{Bool, true, refl, arith, ◌∙◌}

pub clean_before : (a b : State) (ok : Bool) → IsLent a b ok → HasCleanDisk b → HasCleanDisk a
clean_before a b ok l clean = let up = l.survives.clean in omega (arith, clean, up)

pub lent_then : (a b c : State) (ok : Bool) → IsLent a b true → IsLent b c ok → IsLent a c ok
lent_then a b c ok f s = record {
  kept = λ clean within. let was = clean_before b c ok s clean in kept_then a b c (f.kept was within) (s.kept clean (f.inside was within refl));
  opened = λ clean within is_ok. f.opened (clean_before b c ok s clean) within refl;
  inside = λ clean within is_ok. let was = clean_before b c ok s clean in s.inside clean (f.inside was within refl) is_ok;
  survives = survives_then a b c _ _ (λ _. ⊥) (λ _ db none. none) (λ _ db none. none) f.survives s.survives;
}

pub rests_then : (a b c : State) → Rests a b → Rests b c → Rests a c
rests_then a b c f s = record { now_is = s.now_is ∙ f.now_is; inside = s.inside }
