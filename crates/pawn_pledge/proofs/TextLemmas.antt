-- The texts of secrets and receipts are read back.
use Rattle.pawn_pledge.specs.Laws.{SecretTextsReadBack, ReceiptTextsReadBack, ReceiptTextsAreOne}
use Rattle.pawn_pledge.specs.Secret.{secret_text, secret_of_text}
use Rattle.pawn_pledge.specs.declared.receipt.Receipt.{Receipt}
use Rattle.std.proofs.Common.{◌≡◌, ℕ, ◌+◌, ◌^◌, ◌<◌, ◌==◌, ◌%◌, true, false, List, [], ◌∷◌, ◌++◌, length, get_or, take}
use Rattle.std.proofs.Common.{drop, Option, Some, None, option_map, zero, suc, nat_lt, inl, refl, sym, ap, ◌∙◌, arith}
use Rattle.std.proofs.Common.{length-append, decimal, append_assoc, drop_at, take-append-drop, take_at}
use Rattle.std.proofs.lemmas.Bool.Decides.{nat_tests}
use Rattle.std.proofs.lemmas.Fmt.{decimal_by_steps, decimal_is_IsNumeral}
use Rattle.std.proofs.lemmas.List.{drop_more}
use Rattle.std.proofs.lemmas.List.Quantifiers.{position-Some}
use Rattle.std.specs.Int.{byte_at, bytes_high_first, from_be_bytes, to_be_bytes, w128}
use Rattle.std.specs.List.{position, position_or_len}
use Rattle.std.specs.Str.Parse.{digits_value}
use Rattle.uuid.proofs.OrderLemmas.{from_be_bytes-to_be_bytes_16}
use Rattle.uuid.proofs.RoundTrips.{parses_hyphenated}
use Rattle.uuid.specs.Text.{hyphenated_text, lower, parsed}

-- no hyphen is in a text
abbrev pub HasNoHyphen : List ℕ → Type 0
HasNoHyphen [] = Unit {0}
HasNoHyphen (b ∷ bs) = ((b == 45) ≡ false) × HasNoHyphen bs

digit_is_none : (n : ℕ) → (48 + n == 45) ≡ false
digit_is_none n = grind (arith, nat_tests)

HasNoHyphen-push : (bs : List ℕ) (b : ℕ) → HasNoHyphen bs → (b == 45) ≡ false → HasNoHyphen (bs ++ b ∷ [])
HasNoHyphen-push [] b h e = (e, tt)
HasNoHyphen-push (c ∷ bs) b h e = (h.0, HasNoHyphen-push bs b h.1 e)

decimal-no_hyphen : (n : ℕ) → n < 2 ^ 64 → HasNoHyphen (decimal n)
decimal-no_hyphen =
    decimal_by_steps (λ n ds. HasNoHyphen ds) (λ n h. (digit_is_none n, tt)) (λ n ds h k. HasNoHyphen-push ds (48 + n % 10) k (digit_is_none (n % 10)))

-- the first hyphen is the one after a text without hyphens
hyphen_after : (bs rest : List ℕ) → HasNoHyphen bs → position_or_len (λ b. b == 45) (bs ++ 45 ∷ rest) ≡ length bs
hyphen_after [] rest h = refl
hyphen_after (b ∷ bs) rest h = rw h.0 (omega (arith, hyphen_after bs rest h.1))

pub hyphen_found : (text : List ℕ) (n : ℕ) (rest : List ℕ) → n < 2 ^ 64 → text ≡ decimal n ++ 45 ∷ rest
    → position (λ b. b == 45) text ≡ Some (length (decimal n))
hyphen_found text n rest small is =
    let place : position_or_len (λ b. b == 45) text ≡ length (decimal n) =
    ap (λ (t : List ℕ). position_or_len (λ b. b == 45) t) is ∙ hyphen_after (decimal n) rest (decimal-no_hyphen n small) in
    let long : length text ≡ length (decimal n) + length (45 ∷ rest) = ap length is ∙ length-append (decimal n) (45 ∷ rest) in
    let inside : nat_lt (position_or_len (λ b. b == 45) text) (length text) ≡ true = grind (arith, nat_tests, place, long) in
    rw inside (ap (λ (k : ℕ). Some k) place)

-- a text of a number, a hyphen and a rest is split at that hyphen
pub cut_at : (text : List ℕ) (n at : ℕ) (rest : List ℕ) → n < 2 ^ 64 → text ≡ decimal n ++ 45 ∷ rest → position (λ b. b == 45) text ≡ Some at
    → (take at text ≡ decimal n) × (drop (at + 1) text ≡ rest)
cut_at text n at rest small is found =
    let e : Some at ≡ Some (length (decimal n)) = sym found ∙ hyphen_found text n rest small is in
    let same : at ≡ length (decimal n) = cc in
    let whole : text ≡ (decimal n ++ 45 ∷ []) ++ rest = is ∙ sym (append_assoc (decimal n) (45 ∷ []) rest) in
    let long : length (decimal n ++ 45 ∷ []) ≡ at + 1 = omega (arith, same, length-append (decimal n) (45 ∷ [])) in (
      ap (λ (t : List ℕ). take at t) is ∙ take_at (decimal n) (45 ∷ rest) at (sym same),
      ap (λ (t : List ℕ). drop (at + 1) t) whole ∙ drop_at (decimal n ++ 45 ∷ []) rest (at + 1) long,
    )

-- there is a hyphen
pub has_hyphen : (text : List ℕ) (n : ℕ) (rest : List ℕ) → n < 2 ^ 64 → text ≡ decimal n ++ 45 ∷ rest → None ≡ position (λ b. b == 45) text → ⊥
has_hyphen text n rest small is none = let e : None ≡ Some (length (decimal n)) = none ∙ hyphen_found text n rest small is in cc

-- a text is the part before its first hyphen, the hyphen, and the part after it
pub cut_by : (text : List ℕ) (at : ℕ) → position (λ b. b == 45) text ≡ Some at → text ≡ take at text ++ 45 ∷ drop (at + 1) text
cut_by text at found =
    let p = position-Some (λ b. b == 45) text at 0 found in
    let hyphen : get_or text at 0 ≡ 45 = let t = p.1 in grind (arith, nat_tests, t) in
    sym (take-append-drop at text) ∙ ap (λ (l : List ℕ). take at text ++ l) (drop_more text at 0 p.0 ∙ ap (λ (b : ℕ). b ∷ drop (at + 1) text) hyphen)

-- the bytes of a word are bytes
byte_small : (k n : ℕ) → byte_at k n < 256
byte_small zero n = omega arith
byte_small (suc k) n = omega arith

bytes_small : (k n i d : ℕ) → i < length (bytes_high_first k n) → get_or (bytes_high_first k n) i d < 256
bytes_small zero n i d h = absurd (omega (arith, h))
bytes_small (suc k) n zero d h = byte_small k n
bytes_small (suc k) n (suc i) d h = bytes_small k n i d (omega (arith, h))

pub secret_texts_read_back : SecretTextsReadBack
secret_texts_read_back word small =
    let bytes = to_be_bytes w128 word in
    let read : Some bytes ≡ parsed (hyphenated_text lower bytes) = parses_hyphenated lower bytes (inl refl) refl (λ i d h. bytes_small 16 word i d h) in
    ap (λ (o : Option (List ℕ)). option_map (λ b. from_be_bytes w128 b) o) (sym read) ∙ ap (λ (n : ℕ). Some n) (from_be_bytes-to_be_bytes_16 word small)

pub receipt_texts_read_back : ReceiptTextsReadBack
receipt_texts_read_back r known small = (known, (secret_text r.secret, refl, secret_texts_read_back r.secret small))

-- a number is read from its digits
decimal-injective : (n m : ℕ) → n < 2 ^ 64 → m < 2 ^ 64 → decimal n ≡ decimal m → n ≡ m
decimal-injective n m hn hm e = sym (decimal_is_IsNumeral n hn).1 ∙ ap (λ (ds : List ℕ). digits_value 10 ds) e ∙ (decimal_is_IsNumeral m hm).1

same_receipt : (a b : Receipt) → a.number ≡ b.number → a.secret ≡ b.secret → a ≡ b
same_receipt a b e f = rw (e, f) refl

pub receipt_texts_are_one : ReceiptTextsAreOne
receipt_texts_are_one text one other h k =
    let found = hyphen_found text one.number h.1.0 (omega (arith, h.0)) h.1.1 in
    let a = cut_at text one.number (length (decimal one.number)) h.1.0 (omega (arith, h.0)) h.1.1 found in
    let b = cut_at text other.number (length (decimal one.number)) k.1.0 (omega (arith, k.0)) k.1.1 found in
    let e : Some one.secret ≡ Some other.secret = sym h.1.2 ∙ ap secret_of_text (sym a.1 ∙ b.1) ∙ k.1.2 in
    same_receipt one other (decimal-injective one.number other.number (omega (arith, h.0)) (omega (arith, k.0)) (sym a.0 ∙ b.0)) cc
