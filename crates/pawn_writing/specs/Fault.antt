-- How writing a text ends: completely, or with which fault.
use Rattle.pawn_book.specs.Keeping.{Keeping}
use Rattle.pawn_book.specs.declared.fault.KeepError.{KeepError}
use Rattle.pawn_writing.specs.declared.fault.ViewFault.{ViewFault}
use Rattle.std.specs.Prelude.{◌≡◌, Bool, true, false, Result, Ok, Err}

-- the fault when the keeper does not answer
abbrev pub view_fault : KeepError → ViewFault
view_fault KeepError.Memory = ViewFault.Memory
view_fault (KeepError.Store why) = ViewFault.Store

-- how a text ends: it depends on the keeper's last answer, and on whether the writer failed
abbrev pub result_of_text : Result (Unit {0}) KeepError → Bool → Result (Unit {0}) ViewFault
result_of_text done true = Err ViewFault.Write
result_of_text (Ok u) false = Ok u
result_of_text (Err error) false = Err (view_fault error)

-- over a steady keeper no text fails with `Store`
abbrev pub IsQuietView : {K U : Type 0} → Keeping K → K → Result U ViewFault → Type 0
IsQuietView k old result = k.steady old → result ≡ Err ViewFault.Store → ⊥
