use Rattle.pawn_reply.proofs.DayLemmas.{day_ascii}
use Rattle.pawn_reply.specs.Common.{IsAscii}
use Rattle.std.proofs.Common.{refl, Err, IsOk, MatchResult, Ok, Result}
use Rattle.std.proofs.lemmas.Str.{IsUtf8-from_ascii}
use Rattle.pawn_reply.proofs.done.day_text.Goals as goal

ok_by : {A E : Type 0} (X : Type 0) (P : A → Type 0) (Q : E → Type 0) (r : Result A E) → MatchResult r P (λ e. (X → ⊥) × Q e) → X → IsOk r
ok_by X P Q (Ok a) h x = refl
ok_by X P Q (Err e) h x = absurd (h.0 x)

pub unwrap-requires : goal.unwrap-requires
unwrap-requires c =
    let ascii : IsAscii c.text-bytes.result = rw c.text-bytes.ensures.value (day_ascii c.args.day) in
    ok_by _ _ _ c.from_utf8.result c.from_utf8.ensures.cases (IsUtf8-from_ascii c.text-bytes.result ascii)
