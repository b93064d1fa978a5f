-- The caller of a request and what is asked, from the fields and the body.
use Rattle.pawn_wire.specs.Body.{new_book_of, new_terms_of, opening_of}
use Rattle.pawn_wire.specs.Chain.{after, or_fault}
use Rattle.pawn_wire.specs.Commands.{brokers_command_said, bearers_command_said}
use Rattle.pawn_wire.specs.Common.{Bearer, Broker, Operator, Viewer, secret_of_text}
use Rattle.pawn_wire.specs.Fields.{Pair, values_of}
use Rattle.pawn_wire.specs.Member.{body_said}
use Rattle.pawn_wire.specs.Receipts.{receipt_values, receipts_said, one_said}
use Rattle.pawn_wire.specs.Types.{Asks, BadBody, BadKey, Create, Export, Import, OnPledge, OnReceipt, Present, PutTerms}
use Rattle.pawn_wire.specs.Types.{Show, ShowDay, TakePledge, Target, WireFault}
use Rattle.std.specs.Prelude.{ℕ, List, [], ◌∷◌, codes, Option, None, option_map, Result, Ok}
use Rattle.pawn_book.specs.declared.request.BrokerRequest.TheVariants as broker
use Rattle.pawn_book.specs.declared.request.BearerRequest.TheVariants as bearer
use Rattle.pawn_book.specs.declared.request.View.TheVariants as seen

-- the key in these values, if there is exactly one value
abbrev pub key_said : List (List ℕ) → Option ℕ
key_said [] = None
key_said (value ∷ []) = secret_of_text value
key_said (value ∷ other ∷ values) = None

-- the key that the fields of one name contain
abbrev pub key_given : List ℕ → List Pair → Result ℕ WireFault
key_given name fields = or_fault BadKey (key_said (values_of name fields))

-- the key in the field `Pledge-Key`
abbrev pub key_of : List Pair → Result ℕ WireFault
key_of fields = key_given (codes "pledge-key") fields

-- The caller and what is asked at a target. The key or the receipts are read first, and then the body. An import has
-- two keys.
abbrev pub asks_said : Target → List Pair → List ℕ → Result Asks WireFault
asks_said Create fields body =
    after (key_of fields) (λ key. or_fault BadBody (option_map (λ new_book. Asks.Whole (Operator key new_book)) (body_said new_book_of body)))
asks_said PutTerms fields body =
    after (key_of fields) (λ key. or_fault BadBody (option_map (λ terms. Asks.Whole (Broker key (broker.PutTerms terms))) (body_said new_terms_of body)))
asks_said TakePledge fields body =
    after (key_of fields) (λ key. or_fault BadBody (option_map (λ opening. Asks.Whole (Broker key (broker.TakePledge opening))) (body_said opening_of body)))
asks_said (Show number) fields body = after (key_of fields) (λ key. Ok (Asks.Whole (Viewer key (seen.Pledge number))))
asks_said (OnPledge number action) fields body =
    after (key_of fields) (λ key. or_fault BadBody
    (option_map (λ command. Asks.Whole (Broker key (broker.OnPledge number command))) (brokers_command_said action body)))
asks_said (ShowDay day) fields body = after (key_of fields) (λ key. Ok (Asks.Whole (Viewer key (seen.Sheet day))))
asks_said Export fields body = after (key_of fields) (λ key. Ok (Asks.Whole (Viewer key seen.Rows)))
asks_said Import fields body =
    after (key_of fields) (λ key. after (key_given (codes "import-key") fields) (λ import_key. Ok (Asks.Import key import_key)))
asks_said Present fields body =
    after (receipts_said (receipt_values fields)) (λ receipts. Ok (Asks.Whole (Bearer (bearer.Present receipts))))
asks_said (OnReceipt action) fields body =
    after (one_said (receipt_values fields)) (λ receipt. or_fault BadBody
    (option_map (λ command. Asks.Whole (Bearer (bearer.OnPledge receipt command))) (bearers_command_said action body)))
