-- How a view is shown to the broker who has a book's key.
use Rattle.pawn_host.specs.Common.{Keeping, Refusal, Request, Stamp, View, ViewFault, Viewer, out_text}
use Rattle.pawn_host.specs.Keeps.{Answers, IsKeyOf, ForEachStart, States, answer_bytes}
use Rattle.pawn_host.specs.declared.service.Answer.{Answer}
use Rattle.pawn_host.specs.declared.service.Service.{Service}
use Rattle.std.specs.Prelude.{◌≡◌, ℕ, List, Result, Ok, Err}
use Rattle.pawn_reply.specs.declared.reply.Out.TheVariants as wire

-- a call of the service answers this request
abbrev pub AnswersRequest : {K : Type 0} → Keeping K → Service K → Service K → Stamp → Request → Answer → Type 0
AnswersRequest k old new stamp request answer = ForEachStart k old new (λ start. Answers start stamp request (answer_bytes answer))

-- a call of the service answers a view of a book, if its key was given
abbrev pub AnswersViewer : {K : Type 0} → Keeping K → Service K → Service K → Stamp → ℕ → ℕ → View → Answer → Type 0
AnswersViewer k old new stamp book key view answer =
    ForEachStart k old new
    (λ start kept. IsKeyOf start.host book key → Answers start stamp (record { book = book; caller = Viewer key view }) (answer_bytes answer) kept)

-- The answer to a view: the text if it was written completely, the refusal `unknown` if there is nothing to show, or
-- `Store`. In all other cases, and in place of any of these, it may be `Memory`.
abbrev pub StatesView : {U : Type 0} → Answer → Result U ViewFault → List ℕ → Refusal → Type 0
StatesView answer (Ok u) text unknown = States answer text
StatesView answer (Err ViewFault.Unknown) text unknown = States answer (out_text (wire.Refused unknown))
StatesView answer (Err ViewFault.Store) text unknown = States answer (out_text (wire.Refused Refusal.Store))
StatesView answer (Err ViewFault.Memory) text unknown = answer ≡ Answer.Memory
StatesView answer (Err ViewFault.Write) text unknown = answer ≡ Answer.Memory
