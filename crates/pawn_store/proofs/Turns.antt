-- Connections one after the other; after each of them the keeper is asked whether its store is shut.
use Rattle.pawn_book.proofs.Reading.{on_then}
use Rattle.pawn_book.specs.HostStep.{Host}
use Rattle.pawn_book.specs.Keeping.{GoesOn, Keeping, OfHost, Reads}
use Rattle.pawn_host.specs.Keeps.{ForEachStart, StaysOpen, kept_by, service_keep, start_of}
use Rattle.pawn_host.specs.declared.service.Service.{Service}
use Rattle.pawn_pledge.specs.declared.command.Stamp.{Stamp}
use Rattle.pawn_program.proofs.ServingLemmas.{served_on, served_then}
use Rattle.pawn_program.specs.Serving.{AreServed}
use Rattle.std.proofs.Common.{ℕ, ◌+◌, Option, refl}

module _ {K : Type 0} (k : Keeping K) {first a b : Service K} {new : K} {P : Host → Type 0} (stays : StaysOpen k first a) (more : StaysOpen k a b)
    (reads : Reads k (service_keep b) new P) where
  pub on_turn : GoesOn k (service_keep first) new
  on_turn = on_then stays.on (on_then more.on reads.on)

  pub served_turn : {S : Type 0} (steps : S → Option Stamp → S → Type 0) (from mid to : S) (answered further : ℕ) → ForEachStart k first a
      (λ start. AreServed steps from mid start answered) → ForEachStart k a b (λ start. AreServed steps mid to start further) → OfHost k
      (service_keep first) new (λ h. AreServed steps from to (start_of k first h) (answered + further) (record {
        stands = k.stands new;
        leaves = k.leaves new;
      }))
  served_turn steps from mid to answered further so then honest h sound at =
      let before = reads.on.was_honest honest in
      let past = so (more.on.was_honest before) h sound at in
      let next = then before _ past.goes.sound past.goes.stands_for in
      served_on steps from to (start_of k first h) (answered + further) (kept_by k b) (record { stands = k.stands new; leaves = k.leaves new })
      (λ g. reads.same honest g) (λ left. reads.crash honest left) (served_then steps from mid to (start_of k first h) _ answered further (kept_by k a)
      (kept_by k b) past stays.on.stays stays.operator past.goes.crash refl next)
