-- What a call that writes a text has written, and its answer.
use Rattle.pawn_view.specs.Common.{Closing, Flow, Front, Host, Open, PledgeValue, PutFront, PutsLine, Receipt, Redeemed}
use Rattle.pawn_view.specs.Common.{Sold, ViewFault, Whole, Writing, Written, are_unknown, get, live_at, pledge_in}
use Rattle.pawn_view.specs.Common.{write_failed}
use Rattle.pawn_view.specs.Text.{statement_text, presented_text}
use Rattle.pawn_view.specs.declared.statements.StatementLines.{StatementLines}
use Rattle.std.specs.Prelude.{ℕ, false, max, List, [], Option, Some, None, Result, Ok, Err, ◌≡◌, map, option_map}
use Rattle.std.specs.Prelude.{unwrap_or, if◌then◌else◌}

-- the day that a statement describes, provided that the last change of a closed pledge was its closing
abbrev pub open_or_last : Closing → ℕ → ℕ → ℕ
open_or_last Open last day = max day last
open_or_last (Redeemed closed paid) last day = last
open_or_last (Sold closed net) last day = last

-- the pledge of a number in a book of the host
abbrev pub pledge_at : Host → ℕ → ℕ → Option PledgeValue
pledge_at h book number = pledge_in (get h.books book) number

-- for each receipt its pledge, or none if the receipt is not live in the book
abbrev pub live_pledges : Host → ℕ → List Receipt → List (Option PledgeValue)
live_pledges h book receipts = map (live_at (pledge_in (get h.books book))) receipts

-- the statement of a pledge, if the book has it
abbrev pub statement_of : Host → ℕ → ℕ → ℕ → Option (List ℕ)
statement_of h book number day = option_map (statement_text day) (pledge_at h book number)

-- the text for the pledges of receipts, if one of the receipts is live
abbrev pub shown_of : ℕ → List (Option PledgeValue) → Option (List ℕ)
shown_of day pledges = if are_unknown pledges then None else Some (presented_text day pledges)

-- the text for receipts, if one of them is live
abbrev pub presentation_of : Host → ℕ → List Receipt → ℕ → Option (List ℕ)
presentation_of h book receipts day = shown_of day (live_pledges h book receipts)

-- The whole text was written, or there is a reason why not. With `Unknown` nothing was written, and there is nothing to
-- show. With any other reason a prefix of the text was written.
abbrev pub Shows : {W U : Type 0} → (W → Option (List ℕ)) → Writing W → Option (List ℕ) → Result U ViewFault → Writing W → Type 0
Shows contents old text (Ok u) new = (t : List ℕ) × (text ≡ Some t) × Written contents old t Whole new
Shows contents old text (Err ViewFault.Write) new = (t : List ℕ) × (text ≡ Some t) × Written contents old t Front new
Shows contents old text (Err ViewFault.Memory) new = PutFront contents old (unwrap_or text []) new × (write_failed new ≡ false)
Shows contents old text (Err ViewFault.Store) new = PutFront contents old (unwrap_or text []) new × (write_failed new ≡ false)
Shows contents old text (Err ViewFault.Unknown) new = (text ≡ None) × (new ≡ old)

-- a visitor that writes a line for each element to the writer that it borrows; it keeps borrowing the same writer
pub record PutsElement {W T : Type 0} (contents : W → Option (List ℕ)) (line : T → List ℕ) (v : StatementLines W) (x : T) (flow : Flow)
    (w : StatementLines W) : Type 0 where
  pub puts : PutsLine contents line v.writer.now x flow w.writer.now
  pub same_writer : w.writer.ghost_name ≡ v.writer.ghost_name
