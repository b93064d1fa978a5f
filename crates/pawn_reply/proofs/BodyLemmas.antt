-- Texts that JSON writes as they are.
use Rattle.json.specs.Print.{escape, escape_byte}
use Rattle.pawn_reply.proofs.DayLemmas.{both_true}
use Rattle.pawn_reply.specs.Bodies.{opened_text, refusal_text}
use Rattle.pawn_reply.specs.Common.{compact_text, no_members, object}
use Rattle.pawn_reply.specs.Laws.{is_unescaped, number_member, refusal_members, text_member}
use Rattle.pawn_reply.specs.Types.{Row, Total, Detail}
use Rattle.serde_json.proofs.OnLiterals.{serde_json_on_literals}
use Rattle.std.proofs.Common.{◌≡◌, ℕ, List, [], ◌∷◌, ◌++◌, refl, ap, ◌∙◌, arith, sym, append_assoc, Option, Some, None}
use Rattle.std.proofs.Common.{IsTrue, ◌&&◌, nat_le, not, ◌==◌, codes, decimal}
use Rattle.std.proofs.lemmas.Grind.{common_steps}

escape_plain_byte : (b : ℕ) → IsTrue (nat_le 32 b && not (b == 34) && not (b == 92)) → escape_byte b ≡ b ∷ []
unfolding escape_byte
escape_plain_byte b h = grind (arith, common_steps)

-- a plain text is escaped to itself
pub escape_plain : (s : List ℕ) → IsTrue (is_unescaped s) → escape s ≡ s
escape_plain [] h = refl
escape_plain (b ∷ s) h =
    let two = both_true (nat_le 32 b && not (b == 34) && not (b == 92)) (is_unescaped s) h in
    (λ i. escape_plain_byte b two.0 i ++ escape_plain s two.1 i)

-- a text in quotes, and what follows it
pub quoted : (s rest : List ℕ) → IsTrue (is_unescaped s) → s ++ (34 ∷ rest) ≡ (escape s ++ 34 ∷ []) ++ rest
quoted s rest h = sym (append_assoc (escape s) (34 ∷ []) rest ∙ ap (λ (t : List ℕ). t ++ 34 ∷ rest) (escape_plain s h))

pub opened_text-json : (number : ℕ) (receipt : List ℕ) → IsTrue (is_unescaped receipt)
    → opened_text number receipt ≡ compact_text (object (number_member (codes "number") number (text_member (codes "receipt") receipt no_members)))
unfolding serde_json_on_literals
opened_text-json number receipt h =
    ap (λ (t : List ℕ). codes "{\"number\":" ++ (decimal number ++ (codes ",\"receipt\":\"" ++ t))) (quoted receipt (codes "}") h)

pub refusal_text-json : (code : ℕ) (name : List ℕ) (detail : Option Detail) → IsTrue (is_unescaped name)
    → refusal_text code name detail ≡ compact_text (object (refusal_members code name detail))
unfolding serde_json_on_literals
refusal_text-json code name None h = ap (λ (t : List ℕ). codes "{\"code\":" ++ (decimal code ++ (codes ",\"name\":\"" ++ t))) (quoted name (codes "}") h)
refusal_text-json code name (Some (Total total)) h = ap (λ (t : List ℕ). codes "{\"code\":" ++ (decimal code ++ (codes ",\"name\":\"" ++ t)))
    (quoted name (codes ",\"total\":" ++ (decimal total ++ codes "}")) h)
refusal_text-json code name (Some (Row row)) h =
    ap (λ (t : List ℕ). codes "{\"code\":" ++ (decimal code ++ (codes ",\"name\":\"" ++ t))) (quoted name (codes ",\"row\":" ++ (decimal row ++ codes "}")) h)
