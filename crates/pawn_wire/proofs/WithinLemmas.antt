-- Each part of a request that is read from bytes is within its limits.
use Rattle.pawn_wire.proofs.NamedLemmas.{number_said-is, day_said-is}
use Rattle.pawn_wire.proofs.ReceiptLemmas.{all_said-length}
use Rattle.pawn_wire.specs.Body.{day_if_any, day_or_null, kind_of, new_book_of, new_terms_of, opening_of}
use Rattle.pawn_wire.specs.Body.{optional_day_at}
use Rattle.pawn_wire.specs.Callers.{asks_said, key_given, key_of}
use Rattle.pawn_wire.specs.Chain.{after, and_then, or_fault}
use Rattle.pawn_wire.specs.Commands.{asked_booking, asked_entry, bearers_command_said, brokers_command_said}
use Rattle.pawn_wire.specs.Commands.{decision_of, paper_of}
use Rattle.pawn_wire.specs.Common.{AreFew, Bearer, BookRows, Broker, Command, Data, IsCapacity, IsNumber, IsOpening}
use Rattle.pawn_wire.specs.Common.{IsRequestDay, IsText, MOST_ARTICLE_BYTES, MOST_BOOKINGS, MOST_NAME_BYTES}
use Rattle.pawn_wire.specs.Common.{MOST_RECEIPTS, MOST_REFERENCE_BYTES, NewBook, Opening, Operator, Receipt, Request}
use Rattle.pawn_wire.specs.Common.{Viewer, after_first, before_first, first_of, is_text, secret_of_text}
use Rattle.pawn_wire.specs.Fields.{Pair}
use Rattle.pawn_wire.specs.Head.{fields_of}
use Rattle.pawn_wire.specs.Laws.{IsBodyNumber, IsCallerWithin, IsCommandWithin}
use Rattle.pawn_wire.specs.Limits.{most_numeral}
use Rattle.pawn_wire.specs.Member.{body_said, day_at, flag_at, if_text, in_range, json_of, key_at, number_at, string_at}
use Rattle.pawn_wire.specs.Member.{text_at}
use Rattle.pawn_wire.specs.Named.{day_said, number_said}
use Rattle.pawn_wire.specs.Target.{is_ascii_text, method_of, target_asked, target_of, target_said}
use Rattle.pawn_wire.specs.Receipts.{all_said, is_hyphen, one_said, receipt_faults, receipt_said, receipt_values}
use Rattle.pawn_wire.specs.Receipts.{receipts_said}
use Rattle.pawn_wire.specs.Request.{HoldsRows, IsAsked, IsOutlined, SaysRequest, framing_faults, outline_by}
use Rattle.pawn_wire.specs.Route.{AskedFor, route_of}
use Rattle.pawn_wire.specs.Types.{Asks, BadBody, BadReceipt, Create, Endpoint, Export, NoReceipt, NoRoute, OnPledge}
use Rattle.pawn_wire.specs.Types.{OnReceipt, Outline, Present, PutTerms, Show, ShowDay, TakePledge, TooManyReceipts}
use Rattle.pawn_wire.specs.Types.{WireFault, WrongMethod, Import, BearerAction, BrokerAction, NewBooking, NewEntry}
use Rattle.pawn_wire.specs.Types.{BookTarget, Target}
use Rattle.serde_json.specs.Find.{as_null, as_number, as_str, as_u64, get}
use Rattle.std.proofs.Common.{◌≡◌, ℕ, ◌≤◌, List, [], ◌∷◌, length, Bool, true, false, Option, Some, None, IfSome, Result}
use Rattle.std.proofs.Common.{Ok, Err, refl, ap, subst, arith, inl, inr, ◌==◌, ◌&&◌, not, nat_le, nat_lt, bytes_eq}
use Rattle.std.proofs.Common.{if◌then◌else◌, is_some, option_map, option_and_then, slice_get, codes}
use Rattle.std.proofs.lemmas.Bool.Decides.{nat_tests}
use Rattle.pawn_book.specs.declared.request.BrokerRequest.TheVariants as broker
use Rattle.pawn_book.specs.declared.request.BearerRequest.TheVariants as bearer
use Rattle.pawn_book.specs.declared.request.View.TheVariants as seen

-- ---- chains

after_ok : {A B : Type 0} (x : Result A WireFault) (next : A → Result B WireFault) (b : B) → after x next ≡ Ok b → (a : A) × (x ≡ Ok a) × (next a ≡ Ok b)
after_ok (Ok a) next b e = (a, refl, e)
after_ok (Err fault) next b e = absurd cc

given_some : {A B : Type 0} (x : Option A) (next : A → Option B) (b : B) → and_then x next ≡ Some b → (a : A) × (x ≡ Some a) × (next a ≡ Some b)
given_some None next b e = absurd cc
given_some (Some a) next b e = (a, refl, e)

some_same : {A : Type 0} {a b : A} → Some a ≡ Some b → a ≡ b
some_same e = cc

or_fault_ok : {A : Type 0} (fault : WireFault) (x : Option A) (a : A) → or_fault fault x ≡ Ok a → x ≡ Some a
or_fault_ok fault None a e = absurd cc
or_fault_ok fault (Some b) a e = (let same : b ≡ a = cc in ap Some same)

first_ok : {A : Type 0} (rows : List (Bool × WireFault)) (answer : Result A WireFault) (a : A) → first_of rows answer ≡ Ok a → answer ≡ Ok a
first_ok [] answer a e = e
first_ok ((true, fault) ∷ rows) answer a e = absurd cc
first_ok ((false, fault) ∷ rows) answer a e = first_ok rows answer a e

-- a property that is true of f a for each possible a is true of the mapped value
mapped : {A B : Type 0} (P : B → Type 0) (f : A → B) (x : Option A) (b : B) → option_map f x ≡ Some b → ((a : A) → x ≡ Some a → P (f a)) → P b
mapped P f None b e each = absurd cc
mapped P f (Some a) b e each = (let same : f a ≡ b = cc in subst P same (each a refl))

-- ---- parts

ranged : (least most n m : ℕ) → in_range least most n ≡ Some m → (least ≤ m) × (m ≤ most)
ranged least most n m e = by_test (nat_le least n) (nat_le n most) refl refl e where
  by_test : (a b : Bool) → nat_le least n ≡ a → nat_le n most ≡ b → (if a && b then Some n else None) ≡ Some m → (least ≤ m) × (m ≤ most)
  by_test true true low high same = (let k : n ≡ m = cc in (grind (arith, nat_tests, low, k), grind (arith, nat_tests, high, k)))
  by_test true false low high same = absurd cc
  by_test false b low high same = absurd cc

texted : (most : ℕ) (s t : List ℕ) → if_text most s ≡ Some t → IsText most t
texted most s t e = by_test (is_text most s) refl e where
  by_test : (b : Bool) → is_text most s ≡ b → (if b then Some s else None) ≡ Some t → IsText most t
  by_test true is same = (let k : s ≡ t = cc in subst (λ (x : List ℕ). IsText most x) k is)
  by_test false is same = absurd cc

text_within : (most : ℕ) (name : List ℕ) (d : Data) (t : List ℕ) → text_at most name d ≡ Some t → IsText most t
text_within most name d t e = let s = given_some (string_at name d) (if_text most) t e in texted most s.0 t s.2

day_within : (text : List ℕ) (day : ℕ) → day_said text ≡ Some day → IsRequestDay day
day_within text day e = (day_said-is day text e).0

some_day : (member : Data) (agreed : Option ℕ) → day_or_null member ≡ Some agreed → IfSome agreed IsRequestDay
some_day member agreed e = by_null (is_some (as_null member)) (and_then (as_str member) day_said) refl e where
  by_null : (null : Bool) (said : Option ℕ) → and_then (as_str member) day_said ≡ said → (if null then Some None else option_map Some said) ≡ Some agreed
      → IfSome agreed IsRequestDay
  by_null true said is same = (let k : None ≡ agreed = cc in subst (λ (o : Option ℕ). IfSome o IsRequestDay) k tt)
  by_null false None is same = absurd cc
  by_null false (Some day) is same =
      let k : Some day ≡ agreed = cc in
      let s = given_some (as_str member) day_said day is in
      subst (λ (o : Option ℕ). IfSome o IsRequestDay) k (day_within s.0 day s.2)

agreed_within : (member : Option Data) (agreed : Option ℕ) → day_if_any member ≡ Some agreed → IfSome agreed IsRequestDay
agreed_within None agreed e = (let k : None ≡ agreed = cc in subst (λ (o : Option ℕ). IfSome o IsRequestDay) k tt)
agreed_within (Some member) agreed e = some_day member agreed e

-- ---- bodies

new_book_within : (d : Data) (new : NewBook) → new_book_of d ≡ Some new → IsText MOST_NAME_BYTES new.name × IsCapacity new.capacity
new_book_within d new e =
    let capacity = given_some (and_then (number_at (codes "capacity") d) (in_range 1 MOST_BOOKINGS)) _ new e in
    let bookings = given_some (number_at (codes "capacity") d) (in_range 1 MOST_BOOKINGS) capacity.0 capacity.1 in
    let key = given_some (key_at (codes "key") d) _ new capacity.2 in
    let name = given_some (text_at MOST_NAME_BYTES (codes "name") d) _ new key.2 in
    let same : ◌≡◌ {A = NewBook} (record { key = key.0; name = name.0; capacity = capacity.0 }) new = cc (name.2) in
    subst (λ (b : NewBook). IsText MOST_NAME_BYTES b.name × IsCapacity b.capacity) same
    (text_within MOST_NAME_BYTES (codes "name") d name.0 name.1, ranged 1 MOST_BOOKINGS bookings.0 capacity.0 bookings.2)

opening_within : (d : Data) (opening : Opening) → opening_of d ≡ Some opening → IsOpening opening
opening_within d opening e =
    let agreed = given_some (optional_day_at (codes "agreed") d) _ opening e in
    let article = given_some (text_at MOST_ARTICLE_BYTES (codes "article") d) _ opening agreed.2 in
    let five_days = given_some (flag_at (codes "five_days") d) _ opening article.2 in
    let kind = given_some (kind_of d) _ opening five_days.2 in
    let reference = given_some (text_at MOST_REFERENCE_BYTES (codes "ref") d) _ opening kind.2 in
    let same : ◌≡◌ {A = Opening} (record { reference = reference.0; article = article.0; kind = kind.0; agreed = agreed.0; five_days = five_days.0 }) opening =
    cc (reference.2) in
    subst (λ (o : Opening). IsOpening o) same (record {
      reference = text_within MOST_REFERENCE_BYTES (codes "ref") d reference.0 reference.1;
      article = text_within MOST_ARTICLE_BYTES (codes "article") d article.0 article.1;
      agreed = agreed_within (get (codes "agreed") d) agreed.0 agreed.1;
    })

few_within : (values : List (List ℕ)) (receipts : List Receipt) → receipts_said values ≡ Ok receipts → AreFew receipts
few_within values receipts e = by_test (length values == 0) (nat_lt MOST_RECEIPTS (length values)) refl refl e where
  by_test : (a b : Bool) → (length values == 0) ≡ a → nat_lt MOST_RECEIPTS (length values) ≡ b
      → first_of ((a, NoReceipt) ∷ (b, TooManyReceipts) ∷ []) (or_fault BadReceipt (all_said values)) ≡ Ok receipts → AreFew receipts
  by_test true b none many same = absurd cc
  by_test false true none many same = absurd cc
  by_test false false none many same =
      let len = all_said-length values receipts (or_fault_ok BadReceipt (all_said values) receipts same) in
      (grind (arith, nat_tests, none, len), grind (arith, nat_tests, many, len))

-- ---- commands

number_within : (name : List ℕ) (d : Data) (n : ℕ) → number_at name d ≡ Some n → IsBodyNumber n
number_within name d n e = number_chain (option_and_then as_u64 (option_and_then as_number (get name d))) e where
  number_chain : (said : Option ℕ) → option_and_then (in_range 0 most_numeral) said ≡ Some n → IsBodyNumber n
  number_chain None same = absurd cc
  number_chain (Some m) same = (ranged 0 most_numeral m n same).1

day_at_within : (name : List ℕ) (d : Data) (day : ℕ) → day_at name d ≡ Some day → IsRequestDay day
day_at_within name d day e = let text = given_some (string_at name d) day_said day e in day_within text.0 day text.2

abbrev IsEntryWithin : NewEntry → Type 0
IsEntryWithin n = IsBodyNumber n.seq × IsBodyNumber n.pence

abbrev IsBookingWithin : NewBooking → Type 0
IsBookingWithin b = IsRequestDay b.day × IsBodyNumber b.window

-- two parts of a body, one read after the other
two_within : {C : Type 0} (P Q : ℕ → Type 0) (R : C → Type 0) (first second : Option ℕ) (make : ℕ → ℕ → C) (c : C) → ((n : ℕ) → first ≡ Some n → P n)
    → ((n : ℕ) → second ≡ Some n → Q n) → ((a b : ℕ) → P a → Q b → R (make a b)) → and_then first (λ a. and_then second (λ b. Some (make a b))) ≡ Some c → R c
two_within P Q R first second make c one two both e =
    let a = given_some first _ c e in
    let b = given_some second _ c a.2 in
    subst R (some_same b.2) (both a.0 b.0 (one a.0 a.1) (two b.0 b.1))

entry_within : (d : Data) (entry : NewEntry) → asked_entry d ≡ Some entry → IsEntryWithin entry
entry_within d entry = two_within IsBodyNumber IsBodyNumber IsEntryWithin (number_at (codes "pence") d) (number_at (codes "seq") d)
    (λ pence seq. record { seq = seq; pence = pence }) entry (number_within (codes "pence") d) (number_within (codes "seq") d) (λ pence seq p s. (s, p))

booking_within : (d : Data) (booking : NewBooking) → asked_booking d ≡ Some booking → IsBookingWithin booking
booking_within d booking = two_within IsRequestDay IsBodyNumber IsBookingWithin (day_at (codes "day") d) (number_at (codes "window") d)
    (λ day window. record { day = day; window = window }) booking (day_at_within (codes "day") d) (number_within (codes "window") d) (λ day window s n. (s, n))

of_body : {A : Type 0} (P : A → Type 0) (part : Data → Option A) (body : List ℕ) (a : A) → body_said part body ≡ Some a → ((d : Data) → part d ≡ Some a → P a)
    → P a
of_body P part body a e each = (let d = given_some (json_of body) part a e in each d.0 d.2)

-- a command that is made from a part of a body
made_within : {A : Type 0} (part : Data → Option A) (make : A → Command) → ((d : Data) (a : A) → part d ≡ Some a → IsCommandWithin (make a))
    → (body : List ℕ) (command : Command) → option_map make (body_said part body) ≡ Some command → IsCommandWithin command
made_within part make holds body command e =
    mapped IsCommandWithin make (body_said part body) command e (λ a is. of_body (λ (x : _). IsCommandWithin (make x)) part body a is (λ d. holds d a))

brokers_within : (action : BrokerAction) (body : List ℕ) (command : Command) → brokers_command_said action body ≡ Some command → IsCommandWithin command
brokers_within BrokerAction.Draw body command e = made_within asked_entry (λ entry. Command.Draw entry.seq entry.pence) entry_within body command e
brokers_within BrokerAction.Repay body command e = made_within asked_entry (λ entry. Command.Repay entry.seq entry.pence) entry_within body command e
brokers_within BrokerAction.Hold body command e = (let same : Command.Hold ≡ command = cc in subst IsCommandWithin same tt)
brokers_within BrokerAction.Release body command e = (let same : Command.Release ≡ command = cc in subst IsCommandWithin same tt)
brokers_within BrokerAction.Declare body command e = mapped IsCommandWithin Command.Declare (body_said paper_of body) command e (λ paper is. tt)
brokers_within BrokerAction.Decide body command e = mapped IsCommandWithin Command.DecideBooking (body_said decision_of body) command e (λ decision is. tt)
brokers_within BrokerAction.Sell body command e = made_within (number_at (codes "net")) Command.Sell (number_within (codes "net")) body command e
brokers_within BrokerAction.Extend body command e = made_within (day_at (codes "until")) Command.Extend (day_at_within (codes "until")) body command e

bearers_within : (action : BearerAction) (body : List ℕ) (command : Command) → bearers_command_said action body ≡ Some command → IsCommandWithin command
bearers_within BearerAction.Repay body command e = made_within asked_entry (λ entry. Command.Repay entry.seq entry.pence) entry_within body command e
bearers_within BearerAction.Ask body command e =
    made_within asked_booking (λ booking. Command.AskBooking booking.day booking.window) booking_within body command e
bearers_within BearerAction.Cancel body command e = (let same : Command.CancelBooking ≡ command = cc in subst IsCommandWithin same tt)
bearers_within BearerAction.Redeem body command e = made_within (number_at (codes "paid")) Command.Redeem (number_within (codes "paid")) body command e

receipt_within : (text : List ℕ) (receipt : Receipt) → receipt_said text ≡ Some receipt → IsNumber receipt.number
receipt_within text receipt e =
    let number = given_some (number_said (before_first is_hyphen text)) _ receipt e in
    by_secret number.0 (secret_of_text (after_first is_hyphen text)) (number_said-is number.0 (before_first is_hyphen text) number.1).0 number.2 where
      by_secret : (number : ℕ) (secret : Option ℕ) → IsNumber number → option_map (λ secret. record { number = number; secret = secret }) secret ≡ Some receipt
          → IsNumber receipt.number
      by_secret number None range same = absurd cc
      by_secret number (Some secret) range same =
          let k : ◌≡◌ {A = Receipt} (record { number = number; secret = secret }) receipt = cc in
          subst (λ (x : Receipt). IsNumber x.number) k range

one_within : (values : List (List ℕ)) (receipt : Receipt) → one_said values ≡ Ok receipt → IsNumber receipt.number
one_within values receipt e =
    let one = or_fault_ok BadReceipt (and_then (slice_get values 0) receipt_said) receipt
    (first_ok (receipt_faults 1 values) (or_fault BadReceipt (and_then (slice_get values 0) receipt_said)) receipt e) in
    let value = given_some (slice_get values 0) receipt_said receipt one in
    receipt_within value.0 receipt value.2

-- ---- requests

-- the number of a pledge is one, and a day is one that a request may name
abbrev IsTargetWithin : Target → Type 0
IsTargetWithin (Show number) = IsNumber number
IsTargetWithin (OnPledge number action) = IsNumber number
IsTargetWithin (ShowDay day) = IsRequestDay day
IsTargetWithin other = Unit {0}

-- what is asked is within its limits
abbrev AreAsksWithin : Asks → Type 0
AreAsksWithin (Asks.Whole caller) = IsCallerWithin caller
AreAsksWithin (Asks.Import key import_key) = Unit {0}

asks_within : (target : Target) (fields : List Pair) (body : List ℕ) (caller : Asks) → IsTargetWithin target
    → asks_said target fields body ≡ Ok caller → AreAsksWithin caller
asks_within Create fields body caller within e =
    let key = after_ok (key_of fields) _ caller e in
    mapped AreAsksWithin (λ new. Asks.Whole (Operator key.0 new)) (body_said new_book_of body) caller (or_fault_ok BadBody _ caller key.2)
    (λ new is. of_body (λ (b : NewBook). IsText MOST_NAME_BYTES b.name × IsCapacity b.capacity) new_book_of body new is (λ d. new_book_within d new))
asks_within PutTerms fields body caller within e =
    let key = after_ok (key_of fields) _ caller e in
    mapped AreAsksWithin (λ terms. Asks.Whole (Broker key.0 (broker.PutTerms terms))) (body_said new_terms_of body) caller (or_fault_ok BadBody _ caller key.2)
    (λ terms is. tt)
asks_within TakePledge fields body caller within e =
    let key = after_ok (key_of fields) _ caller e in
    mapped AreAsksWithin (λ opening. Asks.Whole (Broker key.0 (broker.TakePledge opening))) (body_said opening_of body) caller
    (or_fault_ok BadBody _ caller key.2) (λ opening is. of_body IsOpening opening_of body opening is (λ d. opening_within d opening))
asks_within (Show number) fields body caller within e =
    let key = after_ok (key_of fields) _ caller e in
    let same : Asks.Whole (Viewer key.0 (seen.Pledge number)) ≡ caller = cc (key.2) in subst AreAsksWithin same within
asks_within (OnPledge number action) fields body caller within e =
    let key = after_ok (key_of fields) _ caller e in
    mapped AreAsksWithin (λ command. Asks.Whole (Broker key.0 (broker.OnPledge number command))) (brokers_command_said action body) caller
    (or_fault_ok BadBody _ caller key.2) (λ command is. (within, brokers_within action body command is))
asks_within (ShowDay day) fields body caller within e =
    let key = after_ok (key_of fields) _ caller e in
    let same : Asks.Whole (Viewer key.0 (seen.Sheet day)) ≡ caller = cc (key.2) in subst AreAsksWithin same within
asks_within Export fields body caller within e =
    let key = after_ok (key_of fields) _ caller e in
    let same : Asks.Whole (Viewer key.0 seen.Rows) ≡ caller = cc (key.2) in subst AreAsksWithin same tt
asks_within Import fields body caller within e =
    let key = after_ok (key_of fields) _ caller e in
    let import_key = after_ok (key_given (codes "import-key") fields) _ caller key.2 in
    let same : Asks.Import key.0 import_key.0 ≡ caller = cc (import_key.2) in subst AreAsksWithin same tt
asks_within Present fields body caller within e =
    let receipts = after_ok (receipts_said (receipt_values fields)) _ caller e in
    let same : Asks.Whole (Bearer (bearer.Present receipts.0)) ≡ caller = cc (receipts.2) in
    subst AreAsksWithin same (few_within (receipt_values fields) receipts.0 receipts.1)
asks_within (OnReceipt action) fields body caller within e =
    let receipt = after_ok (one_said (receipt_values fields)) _ caller e in
    mapped AreAsksWithin (λ command. Asks.Whole (Bearer (bearer.OnPledge receipt.0 command))) (bearers_command_said action body) caller
    (or_fault_ok BadBody _ caller receipt.2) (λ command is. (one_within (receipt_values fields) receipt.0 receipt.1, bearers_within action body command is))

-- the number of the book is valid, and the parts of what is asked are within their limits
abbrev IsBookTargetWithin : BookTarget → Type 0
IsBookTargetWithin at = IsNumber at.book × IsTargetWithin at.target

-- a target with a pledge's number
numbered : (of : ℕ → Target) (text : Option (List ℕ)) (target : Target) → ((n : ℕ) → IsNumber n → IsTargetWithin (of n))
    → option_map of (and_then text number_said) ≡ Some target → IsTargetWithin target
numbered of text target each e =
    mapped IsTargetWithin of (and_then text number_said) target e (λ n is. let s = given_some text number_said n is in each n (number_said-is n s.0 s.2).0)

target_within : (endpoint : Endpoint) (text : Option (List ℕ)) (target : Target) → target_said endpoint text ≡ Some target → IsTargetWithin target
target_within Endpoint.Show text target e = numbered Show text target (λ n range. range) e
target_within (Endpoint.OnPledge action) text target e = numbered (λ n. OnPledge n action) text target (λ n range. range) e
target_within Endpoint.ShowDay text target e =
    mapped IsTargetWithin ShowDay (and_then text day_said) target e (λ day is. let s = given_some text day_said day is in day_within s.0 day s.2)
target_within endpoint text target e = subst IsTargetWithin (some_same e) tt

asked_within : (asked : AskedFor) (at : BookTarget) → target_asked asked ≡ Some at → IsBookTargetWithin at
asked_within asked at e =
    let book = given_some (and_then asked.book number_said) _ at e in
    let text = given_some asked.book number_said book.0 book.1 in
    mapped IsBookTargetWithin (λ target. record { book = book.0; target = target }) (target_said asked.endpoint asked.item) at book.2
    (λ target is. ((number_said-is book.0 text.0 text.2).0, target_within asked.endpoint asked.item target is))

book_target_within : (target : List ℕ) (at : BookTarget) → target_of target ≡ Some at → IsBookTargetWithin at
book_target_within target at e = by_test (is_ascii_text target) e where
  by_test : (b : Bool) → (if b then and_then (route_of target) target_asked else None) ≡ Some at → IsBookTargetWithin at
  by_test true same = (let asked = given_some (route_of target) target_asked at same in asked_within asked.0 at asked.2)
  by_test false same = absurd cc

-- an outline has a valid book number, and what it asks is within its limits
abbrev IsOutlineWithin : Outline → Type 0
IsOutlineWithin outline = IsNumber outline.book × AreAsksWithin outline.asks

outline_within : (method target : List ℕ) (fields : List Pair) (body : List ℕ) (outline : Outline)
    → outline_by method target fields body ≡ Ok outline → IsOutlineWithin outline
outline_within method target fields body outline e =
    let at = after_ok (or_fault NoRoute (target_of target)) _ outline (first_ok (framing_faults fields body) _ outline e) in
    let asked = after_ok (asks_said at.0.target fields body) _ outline
    (first_ok ((not (bytes_eq (method_of at.0.target) method), WrongMethod) ∷ []) _ outline at.2) in
    let within = book_target_within target at.0 (or_fault_ok NoRoute (target_of target) at.0 at.1) in
    let same : ◌≡◌ {A = Outline} (record { book = at.0.book; asks = asked.0 }) outline = cc (asked.2) in
    subst IsOutlineWithin same (within.0, asks_within at.0.target fields body asked.0 within.1 asked.1)

-- a request is within the limits of its parts
abbrev IsWithin : Request → Type 0
IsWithin request = IsNumber request.book × IsCallerWithin request.caller

-- the rows in a body are replayable
filled_within : (body : List ℕ) (book key import_key : ℕ) (held : Result BookRows WireFault) (request : Request) → IsNumber book → HoldsRows body held
    → Ok request ≡ after held (λ rows. Ok (record { book = book; caller = Broker key (broker.Import import_key rows) })) → IsWithin request
filled_within body book key import_key (Ok rows) request range text same =
    let is : ◌≡◌ {A = Request} (record { book = book; caller = Broker key (broker.Import import_key rows) }) request = cc in
    subst IsWithin is (range, text.2.0)
filled_within body book key import_key (Err fault) request range text same = absurd cc

asked_in : (body : List ℕ) (book : ℕ) (asked : Asks) (request : Request) → IsNumber book → AreAsksWithin asked → IsAsked body book asked (Ok request)
    → IsWithin request
asked_in body book (Asks.Whole caller) request range within same =
    let is : ◌≡◌ {A = Request} (record { book = book; caller = caller }) request = cc in subst IsWithin is (range, within)
asked_in body book (Asks.Import key import_key) request range within it = filled_within body book key import_key it.0 request range it.1 it.2

outlined : (body : List ℕ) (said : Result Outline WireFault) (request : Request) → ((outline : Outline) → said ≡ Ok outline → IsOutlineWithin outline)
    → IsOutlined body said (Ok request) → IsWithin request
outlined body (Ok outline) request within it = (let here = within outline refl in asked_in body outline.book outline.asks request here.0 here.1 it)
outlined body (Err fault) request within same = absurd cc

-- each part of a request that is read from bytes is within its limits
pub reads_within : (bytes : List ℕ) (request : Request) → SaysRequest bytes (Ok request) → IsNumber request.book × IsCallerWithin request.caller
reads_within bytes request (inl x) =
    outlined x.1 (outline_by x.0.method x.0.target (fields_of x.0) x.1) request (outline_within x.0.method x.0.target (fields_of x.0) x.1) x.3
reads_within bytes request (inr x) = absurd (let never = x.1 in cc)
