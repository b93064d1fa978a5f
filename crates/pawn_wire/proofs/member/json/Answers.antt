use Rattle.pawn_wire.specs.Common.{is_utf8, read}
use Rattle.pawn_wire.specs.Member.{json_of}
use Rattle.std.proofs.Common.{◌≡◌, List, ℕ, Bool, true, false, None, refl, inr, IsUtf8, if◌then◌else◌}
use Rattle.std.proofs.lemmas.Str.{IsUtf8-from_is_utf8, is_utf8-from_IsUtf8}
use Rattle.pawn_wire.proofs.member.json.Goals as goal

pub returns-in-Ok : goal.returns-in-Ok
returns-in-Ok c = record { value = rw (is_utf8-from_IsUtf8 c.args.body.now c.in-Ok.ensures.ok.0) c.in-Ok.ensures.ok.1 }

unread : (s : List ℕ) → (IsUtf8 s → read s ≡ None) → json_of s ≡ None
unread s h = by_test (is_utf8 s) (IsUtf8-from_is_utf8 s) where
  by_test : (b : Bool) → (b ≡ true → IsUtf8 s) → (if b then read s else None) ≡ None
  by_test true f = h (f refl)
  by_test false f = refl

pub returns-else-is_memory : goal.returns-else-is_memory
returns-else-is_memory c =
    record { value = inr (refl, unread c.args.body.now (c.in-Err.ensures.err (λ m. let f = c.if-is_memory.false in let t = c.is_memory.ensures.1 m in cc))) }
