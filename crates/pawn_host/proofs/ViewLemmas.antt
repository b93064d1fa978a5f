-- A view that was written into memory, and the answer to it.
use Rattle.pawn_host.proofs.RunLemmas.{acted_memory, acted_refused}
use Rattle.pawn_host.specs.Common.{Refusal, Refuses, Request, SaysRequest, Stamp, ViewFault, host_step}
use Rattle.pawn_host.specs.Keeps.{GoesTo, IsActed, Kept, Start, States, answer_bytes}
use Rattle.pawn_host.specs.Views.{StatesView}
use Rattle.pawn_host.specs.declared.service.Answer.{Answer}
use Rattle.std.proofs.Common.{◌≡◌, ℕ, List, Result, Ok, Err, inl, inr, refl, ap}

-- the answer: the text of the step, if it was written completely; a refusal, if there is nothing to show
pub view_acted : (start : Start) (stamp : Stamp) (bytes : List ℕ) (answer : Answer) (kept : Kept) (request : Request) (unknown : Refusal) (told : List ℕ)
    (shown : Result (Unit {0}) ViewFault) → SaysRequest bytes (Ok request) → StatesView answer shown told unknown → GoesTo kept start.host start.leaves
    → (unknown ≡ Refusal.Store → ⊥) → ((u : Unit {0}) → shown ≡ Ok u → States answer told → IsActed start stamp bytes (answer_bytes answer) kept)
    → (shown ≡ Err ViewFault.Unknown → host_step start.host start.operator stamp request ≡ Refuses unknown) → (start.Steady → shown ≡ Err ViewFault.Store → ⊥)
    → IsActed start stamp bytes (answer_bytes answer) kept
view_acted start stamp bytes answer kept request unknown told (Ok u) read states goes other whole none calm = whole u refl states
view_acted start stamp bytes answer kept request unknown told (Err ViewFault.Unknown) read states goes other whole none calm =
    acted_refused start stamp bytes answer kept request unknown read states goes (inr (none refl)) (λ steady store. other store)
view_acted start stamp bytes answer kept request unknown told (Err ViewFault.Store) read states goes other whole none calm =
    acted_refused start stamp bytes answer kept request Refusal.Store read states goes (inl (inr refl)) (λ steady store. calm steady refl)
view_acted start stamp bytes answer kept request unknown told (Err ViewFault.Memory) read states goes other whole none calm =
    acted_memory start stamp bytes (answer_bytes answer) kept (ap answer_bytes states) goes
view_acted start stamp bytes answer kept request unknown told (Err ViewFault.Write) read states goes other whole none calm =
    acted_memory start stamp bytes (answer_bytes answer) kept (ap answer_bytes states) goes
