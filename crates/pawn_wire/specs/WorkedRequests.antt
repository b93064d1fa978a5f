-- Worked examples of requests and of their parts.
use Rattle.pawn_terms.specs.Worked.{date}
use Rattle.pawn_wire.specs.Body.{new_book_of, new_terms_of, opening_of}
use Rattle.pawn_wire.specs.Callers.{key_of}
use Rattle.pawn_wire.specs.Commands.{brokers_command_said, bearers_command_said}
use Rattle.pawn_wire.specs.Common.{Bearer, Broker, Command, Confirm, Fixed, Receipt, Running, Sworn, Viewer}
use Rattle.pawn_wire.specs.Fields.{Pair}
use Rattle.pawn_wire.specs.Limits.{most_head, most_fields, most_body, most_digits, most_numeral}
use Rattle.pawn_wire.specs.Member.{body_said}
use Rattle.pawn_wire.specs.Named.{number_said, day_said}
use Rattle.pawn_wire.specs.Target.{target_of}
use Rattle.pawn_wire.specs.Receipts.{receipt_values, receipt_said, receipts_said, one_said}
use Rattle.pawn_wire.specs.Request.{outline_by}
use Rattle.pawn_wire.specs.Types.{Asks, BadBody, BadKey, BadReceipt, BearerAction, BrokerAction, Create, Export, Import}
use Rattle.pawn_wire.specs.Types.{NoReceipt, NoRoute, OnPledge, OnReceipt, BookTarget, Present, PutTerms, Show, ShowDay}
use Rattle.pawn_wire.specs.Types.{TakePledge, Target, TooManyReceipts, WireFault, WrongMethod}
use Rattle.pawn_wire.specs.WorkedHeads.{chunked_coding, states_length}
use Rattle.std.specs.Prelude.{◌≡◌, ℕ, List, [], ◌∷◌, codes, replicate, false, true, Option, Some, None, Ok, Err}
use Rattle.pawn_book.specs.declared.request.BrokerRequest.TheVariants as broker
use Rattle.pawn_book.specs.declared.request.BearerRequest.TheVariants as bearer
use Rattle.pawn_book.specs.declared.request.View.TheVariants as seen

-- the limits of a request: the bytes and the fields of its head, the bytes of its body, the digits of a
-- `Content-Length`, and the largest number in a body
abbrev pub WorkedLimits : Type 0
WorkedLimits =
    (most_head ≡ 8192)
    × (most_fields ≡ 64)
    × (most_body ≡ 1048576)
    × (most_digits ≡ 19)
    × (most_numeral ≡ 999999999999)

-- what is asked of a book
abbrev pub of_book : ℕ → Target → Option BookTarget
of_book book target = Some (record { book = book; target = target })

-- what is asked by targets
abbrev pub WorkedTargets : Type 0
WorkedTargets =
    (target_of (codes "/books/7") ≡ of_book 7 Create)
    × (target_of (codes "/books/7/terms") ≡ of_book 7 PutTerms)
    × (target_of (codes "/books/12/pledges") ≡ of_book 12 TakePledge)
    × (target_of (codes "/books/12/pledges/3") ≡ of_book 12 (Show 3))
    × (target_of (codes "/books/7/pledges/12/draw") ≡ of_book 7 (OnPledge 12 BrokerAction.Draw))
    × (target_of (codes "/books/7/pledges/12/extend") ≡ of_book 7 (OnPledge 12 BrokerAction.Extend))
    × (target_of (codes "/books/7/days/2024-02-29") ≡ of_book 7 (ShowDay (date 2024 2 29)))
    × (target_of (codes "/books/7/days/2199-12-31") ≡ of_book 7 (ShowDay (date 2199 12 31)))
    × (target_of (codes "/books/7/export") ≡ of_book 7 Export)
    × (target_of (codes "/books/7/import") ≡ of_book 7 Import)
    × (target_of (codes "/books/7/held") ≡ of_book 7 Present)
    × (target_of (codes "/books/7/held/redeem") ≡ of_book 7 (OnReceipt BearerAction.Redeem))

-- texts that are no target: a number or a day is malformed or in another spelling, or a part is missing or added
abbrev pub WorkedNoTargets : Type 0
WorkedNoTargets =
    (target_of (codes "/books/07/held") ≡ None)
    × (target_of (codes "/books/7/pledges/03") ≡ None)
    × (target_of (codes "/books/7/pledges/x/draw") ≡ None)
    × (target_of (codes "/books/07/days/2024-02-29") ≡ None)
    × (target_of (codes "/books/7/days/2024-02-30") ≡ None)
    × (target_of (codes "/books/7/days/2024-2-29") ≡ None)
    × (target_of (codes "/books/7/days/2200-01-01") ≡ None)
    × (target_of (codes "/books/7/days/12") ≡ None)
    × (target_of (codes "/books/7/days") ≡ None)
    × (target_of (codes "/books/7/pledges/2024-02-29") ≡ None)
    × (target_of (codes "/books/7/held/") ≡ None)
    × (target_of (codes "/books/7/held?x=1") ≡ None)
    × (target_of (codes "/books/7/held/nope") ≡ None)
    × (target_of (codes "/Books/7") ≡ None)
    × (target_of (codes "/") ≡ None)

-- a number is from 1 to 999,999,999, in its only spelling
abbrev pub WorkedPathNumbers : Type 0
WorkedPathNumbers =
    (number_said (codes "1") ≡ Some 1)
    × (number_said (codes "120") ≡ Some 120)
    × (number_said (codes "999999999") ≡ Some 999999999)
    × (number_said (codes "1000000000") ≡ None)
    × (number_said (codes "0") ≡ None)
    × (number_said (codes "07") ≡ None)
    × (number_said (codes "+7") ≡ None)
    × (number_said (codes "7a") ≡ None)
    × (number_said [] ≡ None)

-- a day is from 2000-01-01 to 2199-12-31, in its only spelling
abbrev pub WorkedDayTexts : Type 0
WorkedDayTexts =
    (day_said (codes "2000-01-01") ≡ Some 10957)
    × (day_said (codes "2000-02-29") ≡ Some 11016)
    × (day_said (codes "2024-01-31") ≡ Some 19753)
    × (day_said (codes "1999-12-31") ≡ None)
    × (day_said (codes "2200-01-01") ≡ None)
    × (day_said (codes "2001-02-29") ≡ None)
    × (day_said (codes "2001-02-00") ≡ None)
    × (day_said (codes "2001-13-01") ≡ None)
    × (day_said (codes "2001-2-3") ≡ None)
    × (day_said (codes "2001-02-03 ") ≡ None)
    × (day_said [] ≡ None)

-- a field that gives a key
abbrev pub gives_key : List ℕ → Pair
gives_key value = (codes "Pledge-Key", value)

-- a field that gives the key of an import
abbrev pub gives_import_key : Pair
gives_import_key = (codes "Import-Key", codes "33333333-3333-3333-3333-333333333333")

abbrev pub operator_key : List ℕ
operator_key = codes "11111111-1111-1111-1111-111111111111"

-- exactly one key, in any of its forms
abbrev pub WorkedKeys : Type 0
WorkedKeys =
    (key_of (gives_key operator_key ∷ []) ≡ Ok 0x11111111_1111_1111_1111_111111111111)
    × (key_of ((codes "pledge-KEY", codes "{11111111-1111-1111-1111-111111111111}") ∷ []) ≡ Ok 0x11111111_1111_1111_1111_111111111111)
    × (key_of [] ≡ Err BadKey)
    × (key_of (gives_key (codes "1") ∷ []) ≡ Err BadKey)
    × (key_of (gives_key operator_key ∷ gives_key operator_key ∷ []) ≡ Err BadKey)

-- a receipt of pledge 1, and its text
abbrev pub some_receipt : Receipt
some_receipt = record { number = 1; secret = 0xda41597c_5157_488d_7724_e03fb8d84a37 }

abbrev pub some_receipt_text : List ℕ
some_receipt_text = codes "1-da41597c-5157-488d-7724-e03fb8d84a37"

-- a field that presents a receipt
abbrev pub presents : List ℕ → Pair
presents value = (codes "Pledge-Receipt", value)

-- one receipt, or 1 to 32; `TooManyReceipts` is reported before `BadReceipt`
abbrev pub WorkedReceiptLists : Type 0
WorkedReceiptLists =
    (receipt_said some_receipt_text ≡ Some some_receipt)
    × (receipt_said (codes "1-{da41597c-5157-488d-7724-e03fb8d84a37}") ≡ Some some_receipt)
    × (receipt_said (codes "01-da41597c-5157-488d-7724-e03fb8d84a37") ≡ None)
    × (receipt_said (codes "da41597c-5157-488d-7724-e03fb8d84a37") ≡ None)
    × (receipt_said (codes "1") ≡ None)
    × (one_said (receipt_values (presents some_receipt_text ∷ [])) ≡ Ok some_receipt)
    × (one_said (receipt_values []) ≡ Err NoReceipt)
    × (one_said (receipt_values (presents some_receipt_text ∷ presents some_receipt_text ∷ [])) ≡ Err TooManyReceipts)
    × (one_said (receipt_values (presents (codes "1") ∷ [])) ≡ Err BadReceipt)
    × (receipts_said [] ≡ Err NoReceipt)
    × (receipts_said (some_receipt_text ∷ codes "1" ∷ []) ≡ Err BadReceipt)
    × (receipts_said (replicate 32 some_receipt_text) ≡ Ok (replicate 32 some_receipt))
    × (receipts_said (replicate 33 (codes "1")) ≡ Err TooManyReceipts)

-- bodies that make a book, put terms or take a pledge
abbrev pub WorkedBodies : Type 0
WorkedBodies =
    (body_said new_book_of (codes "{\"capacity\":2,\"key\":\"11111111-1111-1111-1111-111111111111\",\"name\":\"High Street\"}")
    ≡ Some (record { key = 0x11111111_1111_1111_1111_111111111111; name = codes "High Street"; capacity = 2 }))
    × (body_said new_terms_of (codes "{\"keep_after\":4,\"keep_before\":3,\"rate\":9,\"rate\":2,\"version\":1}")
    ≡ Some (record { version = 1; rates = record { rate = 2; keep_before = 3; keep_after = 4 } }))
    × (body_said new_terms_of (codes "{\"keep_after\":4,\"keep_before\":3,\"note\":\"new\",\"rate\":2,\"version\":1}")
    ≡ Some (record { version = 1; rates = record { rate = 2; keep_before = 3; keep_after = 4 } }))
    × (body_said new_terms_of (codes "{\"keep_after\":4,\"keep_before\":3,\"rate\":1.0,\"version\":1}") ≡ None)
    × (body_said new_terms_of (codes "{\"keep_after\":4,\"keep_before\":3,\"rate\":1000000000000,\"version\":1}") ≡ None)
    × (body_said new_terms_of (codes "{\"keep_after\":4,\"keep_before\":3,\"rate\":2}") ≡ None)
    × (body_said new_terms_of (codes "[]") ≡ None)
    × (body_said opening_of (codes "{\"agreed\":null,\"article\":\"Gold ring\",\"five_days\":false,\"kind\":\"fixed\",\"pence\":10000,\"ref\":\"A1\"}")
    ≡ Some (record { reference = codes "A1"; article = codes "Gold ring"; kind = Fixed 10000; agreed = None; five_days = false }))
    × (body_said opening_of
    (codes "{\"agreed\":\"2001-02-28\",\"article\":\"Gold ring\",\"five_days\":true,\"kind\":\"running\",\"pence\":10000,\"ref\":\"A1\"}")
    ≡ Some (record { reference = codes "A1"; article = codes "Gold ring"; kind = Running 10000; agreed = Some 11381; five_days = true }))
    × (body_said opening_of
    (codes "{\"agreed\":\"2001-02-29\",\"article\":\"Gold ring\",\"five_days\":true,\"kind\":\"running\",\"pence\":10000,\"ref\":\"A1\"}")
    ≡ None)

-- bodies of commands
abbrev pub WorkedCommands : Type 0
WorkedCommands =
    (brokers_command_said BrokerAction.Draw (codes "{\"pence\":500,\"seq\":1}") ≡ Some (Command.Draw 1 500))
    × (brokers_command_said BrokerAction.Declare (codes "{\"paper\":\"sworn\"}") ≡ Some (Command.Declare Sworn))
    × (brokers_command_said BrokerAction.Declare (codes "{\"paper\":\"torn\"}") ≡ None)
    × (brokers_command_said BrokerAction.Decide (codes "{\"yes\":true}") ≡ Some (Command.DecideBooking Confirm))
    × (brokers_command_said BrokerAction.Hold (codes "not read") ≡ Some Command.Hold)
    × (brokers_command_said BrokerAction.Extend (codes "{\"until\":\"2001-02-28\"}") ≡ Some (Command.Extend 11381))
    × (brokers_command_said BrokerAction.Extend (codes "{\"until\":\"2001-02-29\"}") ≡ None)
    × (brokers_command_said BrokerAction.Extend (codes "{\"until\":null}") ≡ None)
    × (bearers_command_said BearerAction.Ask (codes "{\"day\":\"2001-02-28\",\"window\":3}") ≡ Some (Command.AskBooking 11381 3))
    × (bearers_command_said BearerAction.Redeem (codes "{\"paid\":10000}") ≡ Some (Command.Redeem 10000))
    × (bearers_command_said BearerAction.Redeem (codes "{\"paid\":\"10000\"}") ≡ None)

-- each fault is reported before those that come after it
abbrev pub WorkedOrder : Type 0
WorkedOrder =
    (outline_by (codes "PUT") (codes "/nowhere") (states_length (codes "x") ∷ chunked_coding ∷ []) (codes "{}") ≡ Err WireFault.Transfer)
    × (outline_by (codes "PUT") (codes "/nowhere") (states_length (codes "x") ∷ []) (codes "{}") ≡ Err WireFault.BadLength)
    × (outline_by (codes "PUT") (codes "/nowhere") (states_length (codes "1048577") ∷ []) (codes "{}") ≡ Err WireFault.BodyTooLong)
    × (outline_by (codes "PUT") (codes "/nowhere") (states_length (codes "3") ∷ []) (codes "{}") ≡ Err WireFault.BadLength)
    × (outline_by (codes "PUT") (codes "/nowhere") (states_length (codes "2") ∷ []) (codes "{}") ≡ Err NoRoute)
    × (outline_by (codes "PUT") (codes "/books/7") (states_length (codes "2") ∷ []) (codes "{}") ≡ Err WrongMethod)
    × (outline_by (codes "POST") (codes "/books/7/days/2024-02-30") [] [] ≡ Err NoRoute)
    × (outline_by (codes "POST") (codes "/books/7/days/2024-02-29") [] [] ≡ Err WrongMethod)
    × (outline_by (codes "GET") (codes "/books/7/days/2024-02-29") [] [] ≡ Err BadKey)
    × (outline_by (codes "POST") (codes "/books/7") (states_length (codes "2") ∷ []) (codes "{}") ≡ Err BadKey)
    × (outline_by (codes "POST") (codes "/books/7") (states_length (codes "2") ∷ gives_key operator_key ∷ []) (codes "{}") ≡ Err BadBody)
    × (outline_by (codes "POST") (codes "/books/7/import") (gives_import_key ∷ []) [] ≡ Err BadKey)
    × (outline_by (codes "POST") (codes "/books/7/import") (gives_key operator_key ∷ []) [] ≡ Err BadKey)
    × (outline_by (codes "POST") (codes "/books/7/held/redeem") (states_length (codes "2") ∷ []) (codes "{}") ≡ Err NoReceipt)
    × (outline_by (codes "POST") (codes "/books/7/held/redeem") (states_length (codes "2") ∷ presents (codes "1") ∷ []) (codes "{}") ≡ Err BadReceipt)
    × (outline_by (codes "POST") (codes "/books/7/held/redeem") (states_length (codes "2") ∷ presents some_receipt_text ∷ []) (codes "{}") ≡ Err BadBody)

-- requests of the operator, of a broker and of a bearer
abbrev pub WorkedRequests : Type 0
WorkedRequests =
    (outline_by (codes "GET") (codes "/books/7/pledges/3") (gives_key operator_key ∷ []) []
    ≡ Ok (record { book = 7; asks = Asks.Whole (Viewer 0x11111111_1111_1111_1111_111111111111 (seen.Pledge 3)) }))
    × (outline_by (codes "GET") (codes "/books/7/days/2024-02-29") (gives_key operator_key ∷ []) []
    ≡ Ok (record { book = 7; asks = Asks.Whole (Viewer 0x11111111_1111_1111_1111_111111111111 (seen.Sheet (date 2024 2 29))) }))
    × (outline_by (codes "GET") (codes "/books/7/export") (gives_key operator_key ∷ []) []
    ≡ Ok (record { book = 7; asks = Asks.Whole (Viewer 0x11111111_1111_1111_1111_111111111111 seen.Rows) }))
    × (outline_by (codes "POST") (codes "/books/7/import") (gives_import_key ∷ gives_key operator_key ∷ []) []
    ≡ Ok (record { book = 7; asks = Asks.Import 0x11111111_1111_1111_1111_111111111111 0x33333333_3333_3333_3333_333333333333 }))
    × (outline_by (codes "POST") (codes "/books/7/pledges/3/hold") (gives_key operator_key ∷ []) []
    ≡ Ok (record { book = 7; asks = Asks.Whole (Broker 0x11111111_1111_1111_1111_111111111111 (broker.OnPledge 3 Command.Hold)) }))
    × (outline_by (codes "GET") (codes "/books/7/held") (presents some_receipt_text ∷ []) []
    ≡ Ok (record { book = 7; asks = Asks.Whole (Bearer (bearer.Present (some_receipt ∷ []))) }))
    × (outline_by (codes "POST") (codes "/books/7/held/cancel") (presents some_receipt_text ∷ []) []
    ≡ Ok (record { book = 7; asks = Asks.Whole (Bearer (bearer.OnPledge some_receipt Command.CancelBooking)) }))
