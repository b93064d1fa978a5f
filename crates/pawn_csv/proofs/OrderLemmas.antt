-- The state after rows were accepted shows which rows they were.
use Rattle.pawn_csv.proofs.Basics.{◌≡◌, ◌∙◌, ◌+◌, ℕ, Bool, true, false, List, [], ◌∷◌, ◌++◌, length, Option, Some, None}
use Rattle.pawn_csv.proofs.Basics.{Result, Ok, Err, refl, sym, ap, subst, append_assoc, arith, cond, nat_le, ◌==◌, ◌&&◌}
use Rattle.pawn_csv.proofs.Basics.{and_parts, append-nil, nat_tests}
use Rattle.pawn_csv.specs.Common.{Booking, Entry, Extension, Issued, most_entries, most_extensions, most_secrets}
use Rattle.pawn_csv.specs.Layout.{list_rows, raw_rows}
use Rattle.pawn_csv.specs.Order.{has_secret, is_nil, is_none, accept_booking, accept_entry, accept_extension, accept_secret}
use Rattle.pawn_csv.specs.Rows.{entry_rows, extension_rows, secret_rows}
use Rattle.pawn_csv.specs.Types.{Cause, RawPledge, Row}
use Rattle.std.proofs.lemmas.List.{map-append}

pub ok_same : {A : Type 0} (x y : A) → (let r : Result A Cause = Ok x in r ≡ Ok y) → x ≡ y
ok_same x y h = cc

pub guard_ok : {A : Type 0} (b : Bool) (x y : A) (e : Cause) → cond b (Ok x) (Err e) ≡ Ok y → (b ≡ true) × (x ≡ y)
guard_ok true x y e h = (refl, ok_same x y h)
guard_ok false x y e h = cc

pub guard_err : {A : Type 0} (b : Bool) (x : Result A Cause) (y : A) (e : Cause) → cond b (Err e) x ≡ Ok y → x ≡ Ok y
guard_err true x y e h = cc
guard_err false x y e h = h

pub no_items : {A : Type 0} (xs : List A) → is_nil xs ≡ true → xs ≡ []
no_items [] h = refl
no_items (x ∷ xs) h = cc

pub no_item : {A : Type 0} (o : Option A) → is_none o ≡ true → o ≡ None
no_item None h = refl
no_item (Some x) h = cc

secret_rows-snoc : (k n : ℕ) (is : List Issued) (x : Issued) → secret_rows k n (is ++ x ∷ []) ≡ secret_rows k n is ++ Row.Secret k (n + length is) x ∷ []
secret_rows-snoc k n [] x = ap (λ (m : ℕ). Row.Secret k m x ∷ []) (omega arith)
secret_rows-snoc k n (i ∷ is) x = ap (λ (rs : List Row). Row.Secret k n i ∷ rs)
    (secret_rows-snoc k (n + 1) is x ∙ ap (λ (m : ℕ). secret_rows k (n + 1) is ++ Row.Secret k m x ∷ []) (omega arith))

extension_rows-snoc : (k n : ℕ) (es : List Extension) (x : Extension)
    → extension_rows k n (es ++ x ∷ []) ≡ extension_rows k n es ++ Row.Extension k (n + length es) x ∷ []
extension_rows-snoc k n [] x = ap (λ (m : ℕ). Row.Extension k m x ∷ []) (omega arith)
extension_rows-snoc k n (e ∷ es) x = ap (λ (rs : List Row). Row.Extension k n e ∷ rs)
    (extension_rows-snoc k (n + 1) es x ∙ ap (λ (m : ℕ). extension_rows k (n + 1) es ++ Row.Extension k m x ∷ []) (omega arith))

-- one more row of each kind, if there are no rows of the later kinds yet
secret_more : (n : ℕ) (is : List Issued) (x : Issued) → list_rows n (is ++ x ∷ []) [] [] None ≡ list_rows n is [] [] None ++ Row.Secret n (1 + length is) x ∷ []
secret_more n is x = append-nil (secret_rows n 1 (is ++ x ∷ [])) ∙ secret_rows-snoc n 1 is x
    ∙ ap (λ (rs : List Row). rs ++ Row.Secret n (1 + length is) x ∷ []) (sym (append-nil (secret_rows n 1 is)))

entry_more : (n : ℕ) (is : List Issued) (es : List Entry) (x : Entry) → list_rows n is (es ++ x ∷ []) [] None ≡ list_rows n is es [] None ++ Row.Entry n x ∷ []
entry_more n is es x =
    ap (λ (rs : List Row). secret_rows n 1 is ++ rs) (append-nil (entry_rows n (es ++ x ∷ [])) ∙ map-append (Row.Entry n) es (x ∷ []) ∙ ap (λ (rs : List Row).
    rs ++ Row.Entry n x ∷ []) (sym (append-nil (entry_rows n es)))) ∙ sym (append_assoc (secret_rows n 1 is) (entry_rows n es ++ []) (Row.Entry n x ∷ []))

extension_more : (n : ℕ) (is : List Issued) (es : List Entry) (xs : List Extension) (x : Extension)
    → list_rows n is es (xs ++ x ∷ []) None ≡ list_rows n is es xs None ++ Row.Extension n (1 + length xs) x ∷ []
extension_more n is es xs x =
    let last : extension_rows n 1 (xs ++ x ∷ []) ++ [] ≡ (extension_rows n 1 xs ++ []) ++ Row.Extension n (1 + length xs) x ∷ [] =
    append-nil (extension_rows n 1 (xs ++ x ∷ [])) ∙ extension_rows-snoc n 1 xs x
    ∙ ap (λ (rs : List Row). rs ++ Row.Extension n (1 + length xs) x ∷ []) (sym (append-nil (extension_rows n 1 xs))) in
    ap (λ (rs : List Row). secret_rows n 1 is ++ (entry_rows n es ++ rs)) last ∙ ap (λ (rs : List Row). secret_rows n 1 is ++ rs)
    (sym (append_assoc (entry_rows n es) (extension_rows n 1 xs ++ []) (Row.Extension n (1 + length xs) x ∷ [])))
    ∙ sym (append_assoc (secret_rows n 1 is) (entry_rows n es ++ (extension_rows n 1 xs ++ [])) (Row.Extension n (1 + length xs) x ∷ []))

booking_more : (n : ℕ) (is : List Issued) (es : List Entry) (xs : List Extension) (b : Booking)
    → list_rows n is es xs (Some b) ≡ list_rows n is es xs None ++ Row.Booking n b ∷ []
booking_more n is es xs b =
    ap (λ (rs : List Row). secret_rows n 1 is ++ (entry_rows n es ++ rs)) (ap (λ (rs : List Row). rs ++ Row.Booking n b ∷ []) (sym (append-nil (extension_rows n
    1 xs)))) ∙ ap (λ (rs : List Row). secret_rows n 1 is ++ rs) (sym (append_assoc (entry_rows n es) (extension_rows n 1 xs ++ []) (Row.Booking n b ∷ [])))
    ∙ sym (append_assoc (secret_rows n 1 is) (entry_rows n es ++ (extension_rows n 1 xs ++ [])) (Row.Booking n b ∷ []))

-- a row that a pledge accepts becomes its last row
abbrev pub Shows : RawPledge → RawPledge → Row → Type 0
Shows p q row = raw_rows q ≡ raw_rows p ++ row ∷ []

pub secret_shown : (p q : RawPledge) (at : ℕ) (x : Issued) → accept_secret p at x ≡ Ok q → Shows p q (Row.Secret p.columns.number at x)
secret_shown p q at x h =
    let new : RawPledge = record p { secrets = p.secrets ++ x ∷ [] } in
    let guard = guard_ok ((at == length p.secrets + 1) && is_nil p.entries && is_nil p.extensions && is_none p.booking) new q Cause.Order
    (guard_err (nat_le most_secrets (length p.secrets)) _ q Cause.TooMany h) in
    let w = and_parts ((at == length p.secrets + 1) && is_nil p.entries && is_nil p.extensions) (is_none p.booking) guard.0 in
    let v = and_parts ((at == length p.secrets + 1) && is_nil p.entries) (is_nil p.extensions) w.0 in
    let u = and_parts (at == length p.secrets + 1) (is_nil p.entries) v.0 in
    let first = u.0 in
    let place : at ≡ 1 + length p.secrets = grind (arith, nat_tests, first) in
    let n = p.columns.number in
    let rows : raw_rows new ≡ raw_rows p ++ Row.Secret n at x ∷ [] =
    rw (no_items p.entries u.1, no_items p.extensions v.1, no_item p.booking w.1, place)
    (ap (λ (rs : List Row). Row.Pledge p.columns ∷ rs) (secret_more n p.secrets x)) in
    subst (λ (r : RawPledge). Shows p r (Row.Secret n at x)) guard.1 rows

pub entry_shown : (p q : RawPledge) (x : Entry) → accept_entry p x ≡ Ok q → Shows p q (Row.Entry p.columns.number x)
entry_shown p q x h =
    let new : RawPledge = record p { entries = p.entries ++ x ∷ [] } in
    let guard = guard_ok ((x.seq == length p.entries + 1) && has_secret p && is_nil p.extensions && is_none p.booking) new q Cause.Order
    (guard_err (nat_le most_entries (length p.entries)) _ q Cause.TooMany h) in
    let w = and_parts ((x.seq == length p.entries + 1) && has_secret p && is_nil p.extensions) (is_none p.booking) guard.0 in
    let v = and_parts ((x.seq == length p.entries + 1) && has_secret p) (is_nil p.extensions) w.0 in
    let n = p.columns.number in
    let rows : raw_rows new ≡ raw_rows p ++ Row.Entry n x ∷ [] =
    rw (no_items p.extensions v.1, no_item p.booking w.1) (ap (λ (rs : List Row). Row.Pledge p.columns ∷ rs) (entry_more n p.secrets p.entries x)) in
    subst (λ (r : RawPledge). Shows p r (Row.Entry n x)) guard.1 rows

pub extension_shown : (p q : RawPledge) (at : ℕ) (x : Extension) → accept_extension p at x ≡ Ok q → Shows p q (Row.Extension p.columns.number at x)
extension_shown p q at x h =
    let new : RawPledge = record p { extensions = p.extensions ++ x ∷ [] } in
    let guard = guard_ok ((at == length p.extensions + 1) && has_secret p && is_none p.booking) new q Cause.Order
    (guard_err (nat_le most_extensions (length p.extensions)) _ q Cause.TooMany h) in
    let w = and_parts ((at == length p.extensions + 1) && has_secret p) (is_none p.booking) guard.0 in
    let v = and_parts (at == length p.extensions + 1) (has_secret p) w.0 in
    let first = v.0 in
    let place : at ≡ 1 + length p.extensions = grind (arith, nat_tests, first) in
    let n = p.columns.number in
    let rows : raw_rows new ≡ raw_rows p ++ Row.Extension n at x ∷ [] =
    rw (no_item p.booking w.1, place) (ap (λ (rs : List Row). Row.Pledge p.columns ∷ rs) (extension_more n p.secrets p.entries p.extensions x)) in
    subst (λ (r : RawPledge). Shows p r (Row.Extension n at x)) guard.1 rows

pub booking_shown : (p q : RawPledge) (x : Booking) → accept_booking p x ≡ Ok q → Shows p q (Row.Booking p.columns.number x)
booking_shown p q x h =
    let new : RawPledge = record p { booking = Some x } in
    let guard = guard_ok (has_secret p && is_none p.booking) new q Cause.Order h in
    let t = and_parts (has_secret p) (is_none p.booking) guard.0 in
    let n = p.columns.number in
    let rows : raw_rows new ≡ raw_rows p ++ Row.Booking n x ∷ [] =
    rw (no_item p.booking t.1) (ap (λ (rs : List Row). Row.Pledge p.columns ∷ rs) (booking_more n p.secrets p.entries p.extensions x)) in
    subst (λ (r : RawPledge). Shows p r (Row.Booking n x)) guard.1 rows
