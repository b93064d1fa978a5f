-- Receipts and the fields that name them.
use Rattle.pawn_reply.proofs.DayLemmas.{both_true}
use Rattle.pawn_wire.proofs.FieldLemmas.{values_hit, values_other}
use Rattle.pawn_wire.proofs.NamedLemmas.{none_said, number_said-is, number_said-some}
use Rattle.pawn_wire.specs.Chain.{Says, and_then}
use Rattle.pawn_wire.specs.Common.{AreFew, HeaderSpan, IsReceiptText, MOST_RECEIPTS, Receipt, after_first, before_first}
use Rattle.pawn_wire.specs.Common.{header_bytes, list_all, position_or_len, secret_of_text, str_eq_ignore_ascii_case}
use Rattle.pawn_wire.specs.Fields.{value_under, values_of}
use Rattle.pawn_wire.specs.Named.{number_said}
use Rattle.pawn_wire.specs.Receipts.{all_said, is_hyphen, receipt_said, receipt_values, receipts_said}
use Rattle.pawn_wire.specs.Types.{BadReceipt, WireFault}
use Rattle.std.proofs.Common.{◌≡◌, ℕ, ◌+◌, ◌<◌, ◌≤◌, ◌^◌, ◌%◌, suc, List, [], ◌∷◌, ◌++◌, length, map, take, drop}
use Rattle.std.proofs.Common.{get_or, refl, sym, ap, ◌∙◌, subst, arith, append_assoc, Option, Some, None, IfSome}
use Rattle.std.proofs.Common.{Result, Ok, Bool, true, false, inl, inr, IsTrue, not, ◌==◌, decimal, option_map, codes}
use Rattle.std.proofs.Common.{nat_lt, IsSome, ◌↔◌, take-append-drop, take_all}
use Rattle.std.proofs.lemmas.Bool.{cases_lt, false≢true}
use Rattle.std.proofs.lemmas.Bool.Decides.{Decides-eqb, nat_tests}
use Rattle.std.proofs.lemmas.Fmt.{decimal_by_steps}
use Rattle.std.proofs.lemmas.Grind.{common_steps}
use Rattle.std.proofs.lemmas.List.{drop_all, map-append, take-append-le}
use Rattle.std.proofs.lemmas.List.Elements.{filter_map-append}
use Rattle.std.proofs.lemmas.List.Folds.{list_all-append}
use Rattle.std.proofs.lemmas.List.Sums.{split_at_first, passes_at_first}
use Rattle.std.specs.Option.{ok_or}
use Rattle.uuid.proofs.OnLiterals.{uuid_on_literals}

-- ---- a text is split at its first hyphen

abbrev no_hyphen : List ℕ → Bool
no_hyphen s = list_all (λ b. not (b == 45)) s

decimal-no_hyphen : (n : ℕ) → n < 2 ^ 64 → IsTrue (no_hyphen (decimal n))
decimal-no_hyphen n small = decimal_by_steps (λ m ds. IsTrue (no_hyphen ds)) one more n small where
  one : (m : ℕ) → m < 10 → IsTrue (no_hyphen ((48 + m) ∷ []))
  one m h = grind (arith, common_steps)

  more : (m : ℕ) (ds : List ℕ) → 10 ≤ m → IsTrue (no_hyphen ds) → IsTrue (no_hyphen (ds ++ ((48 + m % 10) ∷ [])))
  more m ds h rest = rw (list_all-append (λ b. not (b == 45)) ds ((48 + m % 10) ∷ []), rest) (one (m % 10) (omega arith))

at_hyphen : (front rest : List ℕ) → IsTrue (no_hyphen front) → position_or_len is_hyphen (front ++ 45 ∷ rest) ≡ length front
at_hyphen [] rest h = refl
at_hyphen (b ∷ bs) rest h =
    let two = both_true (not (b == 45)) (no_hyphen bs) h in
    let here : not (is_hyphen b) ≡ true = two.0 in
    rw here (omega (arith, at_hyphen bs rest two.1))

drop_front : (front rest : List ℕ) → drop (length front + 1) (front ++ 45 ∷ rest) ≡ rest
drop_front [] rest = refl
drop_front (b ∷ bs) rest =
    let next : length (b ∷ bs) + 1 ≡ suc (length bs + 1) = omega arith in
    ap (λ (n : ℕ). drop n (b ∷ (bs ++ 45 ∷ rest))) next ∙ drop_front bs rest

before_hyphen : (front rest : List ℕ) → IsTrue (no_hyphen front) → before_first is_hyphen (front ++ 45 ∷ rest) ≡ front
before_hyphen front rest h = ap (λ (n : ℕ). take n (front ++ 45 ∷ rest)) (at_hyphen front rest h)
    ∙ take-append-le (length front) front (45 ∷ rest) (omega arith) ∙ take_all (length front) front (omega arith)

after_hyphen : (front rest : List ℕ) → IsTrue (no_hyphen front) → after_first is_hyphen (front ++ 45 ∷ rest) ≡ rest
after_hyphen front rest h = ap (λ (n : ℕ). drop (n + 1) (front ++ 45 ∷ rest)) (at_hyphen front rest h) ∙ drop_front front rest

-- ---- the receipt of a text

abbrev receipt_parts : Option ℕ → Option ℕ → Option Receipt
receipt_parts number secret = and_then number (λ n. option_map (λ s. record { number = n; secret = s }) secret)

-- a text of a receipt is read as that receipt
pub receipt_said-some : (text : List ℕ) (r : Receipt) → IsReceiptText text r → receipt_said text ≡ Some r
receipt_said-some text r is =
    let plain : IsTrue (no_hyphen (decimal r.number)) = decimal-no_hyphen r.number (omega (arith, is.0.1)) in
    let before : before_first is_hyphen text ≡ decimal r.number = ap (before_first is_hyphen) is.1.1 ∙ before_hyphen (decimal r.number) is.1.0 plain in
    let after : after_first is_hyphen text ≡ is.1.0 = ap (after_first is_hyphen) is.1.1 ∙ after_hyphen (decimal r.number) is.1.0 plain in
    let number : number_said (before_first is_hyphen text) ≡ Some r.number = ap number_said before ∙ number_said-some r.number (decimal r.number) is.0 refl in
    let secret : secret_of_text (after_first is_hyphen text) ≡ Some r.secret = ap secret_of_text after ∙ is.1.2 in
    (λ i. receipt_parts (number i) (secret i))

no_secret : secret_of_text [] ≡ None
unfolding uuid_on_literals
no_secret = refl

-- a text that is read as a receipt is a text of that receipt
pub receipt_said-is : (text : List ℕ) (r : Receipt) → receipt_said text ≡ Some r → IsReceiptText text r
receipt_said-is text r e = by_parts (number_said (before_first is_hyphen text)) (secret_of_text (after_first is_hyphen text)) refl refl e where
  hyphen_found : (s : ℕ) → secret_of_text (after_first is_hyphen text) ≡ Some s → position_or_len is_hyphen text < length text
  hyphen_found s h = elim (cases_lt (position_or_len is_hyphen text) (length text)) [
    | inl less ↦ less
    | inr more ↦
        let gone : after_first is_hyphen text ≡ [] = drop_all (position_or_len is_hyphen text + 1) text (omega arith) in
        let none : secret_of_text (after_first is_hyphen text) ≡ None = ap secret_of_text gone ∙ no_secret in
        absurd cc
  ]

  whole : (s : ℕ) → secret_of_text (after_first is_hyphen text) ≡ Some s → text ≡ before_first is_hyphen text ++ 45 ∷ after_first is_hyphen text
  whole s h =
      let found = hyphen_found s h in
      let here : get_or text (position_or_len is_hyphen text) 0 ≡ 45 =
      (Decides-eqb (get_or text (position_or_len is_hyphen text) 0) 45).0 (passes_at_first is_hyphen text 0 found) in
      split_at_first is_hyphen text 0 found ∙ ap (λ (b : ℕ). before_first is_hyphen text ++ b ∷ after_first is_hyphen text) here

  by_parts : (n s : Option ℕ) → number_said (before_first is_hyphen text) ≡ n → secret_of_text (after_first is_hyphen text) ≡ s
      → receipt_parts n s ≡ Some r → IsReceiptText text r
  by_parts None s en es same = absurd cc
  by_parts (Some n) None en es same = absurd cc
  by_parts (Some n) (Some s) en es same =
      let number = number_said-is n (before_first is_hyphen text) en in
      let parts : ◌≡◌ {A = Receipt} (record { number = n; secret = s }) r = cc in
      subst (λ (q : Receipt). IsReceiptText text q) parts
      (number.0, (after_first is_hyphen text, whole s es ∙ ap (λ (front : List ℕ). front ++ 45 ∷ after_first is_hyphen text) number.1, es))

-- a text of no receipt is read as none
pub receipt_said-none : (text : List ℕ) → ((r : Receipt) → IsReceiptText text r → ⊥) → receipt_said text ≡ None
receipt_said-none text none = none_said (receipt_said text) (λ r e. none r (receipt_said-is text r e))

-- ---- the receipts of several values

push_said : (o : Option (List Receipt)) (p r : Receipt) (rs : List Receipt) → o ≡ Some (rs ++ r ∷ [])
    → option_map (λ receipts. p ∷ receipts) o ≡ Some ((p ∷ rs) ++ r ∷ [])
push_said o p r rs e = ap (λ (x : Option (List Receipt)). option_map (λ receipts. p ∷ receipts) x) e

pub all_said-push : (values : List (List ℕ)) (value : List ℕ) (receipts : List Receipt) (receipt : Receipt)
    → all_said values ≡ Some receipts → receipt_said value ≡ Some receipt → all_said (values ++ value ∷ []) ≡ Some (receipts ++ receipt ∷ [])
all_said-push [] value receipts receipt all one =
    let none : [] ≡ receipts = cc in
    rw one (ap (λ (rs : List Receipt). Some (rs ++ receipt ∷ [])) none)
all_said-push (v ∷ vs) value receipts receipt all one = by_first (receipt_said v) (all_said vs) (λ rs e. all_said-push vs value rs receipt e one) refl all where
  by_first : (p : Option Receipt) (o : Option (List Receipt)) → ((rs : List Receipt) → all_said vs ≡ Some rs
      → all_said (vs ++ value ∷ []) ≡ Some (rs ++ receipt ∷ [])) → all_said vs ≡ o → and_then p (λ r. option_map (λ rs. r ∷ rs) o) ≡ Some receipts
      → and_then p (λ r. option_map (λ rs. r ∷ rs) (all_said (vs ++ value ∷ []))) ≡ Some (receipts ++ receipt ∷ [])
  by_first None o ih e same = absurd cc
  by_first (Some p) None ih e same = absurd cc
  by_first (Some p) (Some rs) ih e same =
      let list : p ∷ rs ≡ receipts = cc in
      push_said (all_said (vs ++ value ∷ [])) p receipt rs (ih rs e) ∙ ap (λ (l : List Receipt). Some (l ++ receipt ∷ [])) list

pub all_said-bad : (values : List (List ℕ)) (value : List ℕ) (more : List (List ℕ)) → receipt_said value ≡ None → all_said (values ++ value ∷ more) ≡ None
all_said-bad [] value more bad = rw bad refl
all_said-bad (v ∷ vs) value more bad = rw (all_said-bad vs value more bad) (none (receipt_said v)) where
  none : (p : Option Receipt) → and_then p (λ r. option_map (λ rs. r ∷ rs) None) ≡ None
  none None = refl
  none (Some r) = refl

-- there are as many receipts as values
pub all_said-length : (values : List (List ℕ)) (receipts : List Receipt) → all_said values ≡ Some receipts → length receipts ≡ length values
all_said-length [] receipts all = (let none : [] ≡ receipts = cc in ap length (sym none))
all_said-length (v ∷ vs) receipts all = by_first (receipt_said v) (all_said vs) (all_said-length vs) refl all where
  by_first : (p : Option Receipt) (o : Option (List Receipt)) → ((rs : List Receipt) → all_said vs ≡ Some rs → length rs ≡ length vs) → all_said vs ≡ o
      → and_then p (λ r. option_map (λ rs. r ∷ rs) o) ≡ Some receipts → length receipts ≡ length (v ∷ vs)
  by_first None o ih e same = absurd cc
  by_first (Some p) None ih e same = absurd cc
  by_first (Some p) (Some rs) ih e same =
      let list : p ∷ rs ≡ receipts = cc in
      let more : length (p ∷ rs) ≡ length (v ∷ vs) = omega (arith, ih rs e) in
      ap length (sym list) ∙ more

-- the values of the first fields, and of the others
pub values_of-rest : (name bytes : List ℕ) (fs : List HeaderSpan) (k : ℕ) → values_of name (map (header_bytes bytes) fs) ≡ values_of name
    (map (header_bytes bytes) (take k fs)) ++ values_of name (map (header_bytes bytes) (drop k fs))
values_of-rest name bytes fs k = ap (λ (l : List HeaderSpan). values_of name (map (header_bytes bytes) l)) (sym (take-append-drop k fs))
    ∙ ap (values_of name) (map-append (header_bytes bytes) (take k fs) (drop k fs))
    ∙ filter_map-append (value_under name) (map (header_bytes bytes) (take k fs)) (map (header_bytes bytes) (drop k fs))

-- ---- the loop over the fields

module _ (bytes : List ℕ) (fs : List HeaderSpan) (i : ℕ) (d : HeaderSpan) (fits : i < length fs) where
  pub collect_hit : (items : List Receipt) (receipt : Receipt) → str_eq_ignore_ascii_case (header_bytes bytes (get_or fs i d)).0 (codes "pledge-receipt") ≡ true
      → all_said (receipt_values (map (header_bytes bytes) (take i fs))) ≡ Some items → receipt_said (header_bytes bytes (get_or fs i d)).1 ≡ Some receipt
      → all_said (receipt_values (map (header_bytes bytes) (take (i + 1) fs))) ≡ Some (items ++ receipt ∷ [])
  collect_hit items receipt e all one = ap all_said (values_hit (codes "pledge-receipt") bytes fs i d fits e)
      ∙ all_said-push (receipt_values (map (header_bytes bytes) (take i fs))) (header_bytes bytes (get_or fs i d)).1 items receipt all one

  pub collect_other : (items : List Receipt) → str_eq_ignore_ascii_case (header_bytes bytes (get_or fs i d)).0 (codes "pledge-receipt") ≡ false
      → all_said (receipt_values (map (header_bytes bytes) (take i fs))) ≡ Some items
      → all_said (receipt_values (map (header_bytes bytes) (take (i + 1) fs))) ≡ Some items
  collect_other items e all = ap all_said (values_other (codes "pledge-receipt") bytes fs i d fits e) ∙ all

  pub collect_bad : str_eq_ignore_ascii_case (header_bytes bytes (get_or fs i d)).0 (codes "pledge-receipt") ≡ true
      → receipt_said (header_bytes bytes (get_or fs i d)).1 ≡ None → all_said (receipt_values (map (header_bytes bytes) fs)) ≡ None
  collect_bad e bad =
      let front = receipt_values (map (header_bytes bytes) (take i fs)) in
      let value = (header_bytes bytes (get_or fs i d)).1 in
      let others = receipt_values (map (header_bytes bytes) (drop (i + 1) fs)) in
      ap all_said (values_of-rest (codes "pledge-receipt") bytes fs (i + 1) ∙ ap (λ (l : List (List ℕ)). l ++ others)
      (values_hit (codes "pledge-receipt") bytes fs i d fits e) ∙ append_assoc front (value ∷ []) others) ∙ all_said-bad front value others bad

-- ---- the limit on receipts

pub few_said : (values : List (List ℕ)) (items : List Receipt) (few : Option (List Receipt)) (answer : Result (List Receipt) WireFault)
    → answer ≡ ok_or few BadReceipt → IfSome few (λ r. r ≡ items) → (IsSome few ↔ AreFew items)
    → all_said values ≡ Some items → (length values ≡ 0 → ⊥) → length values ≤ MOST_RECEIPTS → Says answer (receipts_said values)
few_said values items few answer e list some all not_none not_many =
    subst (λ (a : Result (List Receipt) WireFault). Says a (receipts_said values)) (sym e) (by_few few list (some.1 are_few))
  where
    are_few : AreFew items
    are_few = let len = all_said-length values items all in (omega (arith, len, not_none), omega (arith, len))

    by_few : (r : Option (List Receipt)) → IfSome r (λ r. r ≡ items) → IsSome r → Says (ok_or r BadReceipt) (receipts_said values)
    by_few None same found = absurd (false≢true found)
    by_few (Some r) same found =
        let some_left : length values == 0 ≡ false = grind (arith, nat_tests, not_none) in
        let not_too_many : nat_lt MOST_RECEIPTS (length values) ≡ false = grind (arith, nat_tests, not_many) in
        rw (some_left, not_too_many, all) (ap Ok (sym same))
