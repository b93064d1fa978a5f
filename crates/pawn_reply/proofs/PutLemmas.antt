-- A list with its end put before it.
use Rattle.std.proofs.Common.{◌≡◌, ◌∙◌, ℕ, ◌+◌, ◌-◌, List, ◌++◌, length, take, drop, ap, arith, take_all, append-nil, length-append}
use Rattle.std.proofs.lemmas.List.{drop_all, drop-append-le, take-append-le}

-- the first `len` bytes of memory, after the last `count` of them were put before the others
pub put_before : {X : Type 0} (moved old memory text head : List X) (count len : ℕ) → old ≡ memory → memory ≡ text ++ head → count ≡ length head
    → len ≡ length memory → moved ≡ drop (length old - count) old ++ take (length old - count) old
    → take len (moved ++ drop (length moved) memory) ≡ head ++ text
put_before {X = X} moved old memory text head count len same joined many whole turned =
    let size : length old ≡ length text + length head = ap length (same ∙ joined) ∙ length-append text head in
    let front : length old - count ≡ length text = omega (arith, size, many) in
    let last : drop (length text) (text ++ head) ≡ head =
    drop-append-le (length text) text head (omega arith) ∙ ap (λ (l : List X). l ++ head) (drop_all (length text) text (omega arith)) in
    let first : take (length text) (text ++ head) ≡ text =
    take-append-le (length text) text head (omega arith) ∙ take_all (length text) text (omega arith) in
    let is : moved ≡ head ++ text = turned ∙ ap (λ (n : ℕ). drop n old ++ take n old) front
    ∙ ap (λ (l : List X). drop (length text) l ++ take (length text) l) (same ∙ joined)
    ∙ ap (λ (l : List X). l ++ take (length text) (text ++ head)) last ∙ ap (λ (l : List X). head ++ l) first in
    let long : length moved ≡ length head + length text = ap length is ∙ length-append head text in
    let least : length memory ≡ length text + length head = ap length joined ∙ length-append text head in
    ap (λ (l : List X). take len (moved ++ l)) (drop_all (length moved) memory (omega (arith, long, least))) ∙ ap (take len) (append-nil moved)
    ∙ take_all len moved (omega (arith, long, least, whole)) ∙ is
