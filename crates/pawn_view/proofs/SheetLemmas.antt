-- A day's sheet, put item by item.
use Rattle.pawn_book.specs.declared.change.BookHead.{BookHead}
use Rattle.pawn_view.proofs.StatementLemmas.{shows_ended, some_same}
use Rattle.pawn_view.specs.Common.{BookValue, End, Flow, Handed, IsShare, KeepError, PledgeValue, Puts, PutsLine}
use Rattle.pawn_view.specs.Common.{PutsShare, SheetItem, ViewFault, Writing, book_head, call_end, day_sheet, result_of_text}
use Rattle.pawn_view.specs.Common.{pledges_of, write_failed}
use Rattle.pawn_view.specs.Sheets.{PutsItem, book_sheet, day_lines, sheet_line}
use Rattle.pawn_view.specs.Shown.{Shows}
use Rattle.pawn_view.specs.Text.{day_line}
use Rattle.pawn_view.specs.declared.sheets.SheetLines.{SheetLines}
use Rattle.pawn_writing.proofs.ShareLemmas.{lines_share, share_puts, share_then, writings_in_turn}
use Rattle.std.proofs.Common.{◌≡◌, ◌∙◌, ℕ, false, List, [], ◌∷◌, Option, Some, None, Result, sym, ap, subst, inl, inr}
use Rattle.std.proofs.Common.{codes, option_map}

-- items passed to the visitor are passed to its writer
pub record LinesHanded {W : Type 0} (contents : W → Option (List ℕ)) (v : SheetLines W) (items : List SheetItem) (flow : Flow) (w : SheetLines W) : Type 0 where
  pub lines : Handed (PutsLine contents (sheet_line v.capacity)) v.writer.now items flow w.writer.now
  pub same_writer : w.writer.ghost_name ≡ v.writer.ghost_name

pub lines_handed : {W : Type 0} (contents : W → Option (List ℕ)) (v w : SheetLines W) (items : List SheetItem) (flow : Flow)
    → Handed (PutsItem contents) v items flow w → LinesHanded contents v items flow w
lines_handed contents v w [] flow (goes, same) = record {
  lines = (goes, ap (λ (x : SheetLines _). x.writer.now) same);
  same_writer = sym (ap (λ (x : SheetLines _). x.writer.ghost_name) same);
}
lines_handed contents v w (item ∷ items) flow handed = elim handed [
  | inl (u, first, rest) ↦
      let more = lines_handed contents u w items flow rest in record {
        lines = inl (
          u.writer.now,
          first.puts,
          subst (λ (n : ℕ). Handed (PutsLine contents (sheet_line n)) u.writer.now items flow w.writer.now) first.same_capacity more.lines,
        );
        same_writer = more.same_writer ∙ first.same_writer;
      }
  | inr (stops, none, last) ↦ record { lines = inr (stops, none, last.puts); same_writer = last.same_writer }
]

-- what was put of a day's lines
pub day_put : {W : Type 0} (contents : W → Option (List ℕ)) (v w : SheetLines W) (given : List SheetItem) (flow : Flow) (end : End) (day : ℕ)
    (pledges : List PledgeValue) → Handed (PutsItem contents) v given flow w → IsShare given flow end (day_sheet pledges day)
    → PutsShare contents v.writer.now (day_lines v.capacity day pledges) end w.writer.now
day_put contents v w given flow end day pledges handed share =
    lines_share contents (sheet_line v.capacity) v.writer.now w.writer.now given (day_sheet pledges day) flow end
    (lines_handed contents v w given flow handed).lines share

-- the heading of a book's sheet, and then its lines, by what held the writer until then
pub sheet_shows : {W : Type 0} (contents : W → Option (List ℕ)) (a b held w : Writing W) (day : ℕ) (o : Option BookValue) (head : BookHead)
    (done : Result (Unit {0}) KeepError) (answer : Result (Unit {0}) ViewFault) → write_failed a ≡ false → answer ≡ result_of_text done (write_failed w)
    → Some head ≡ option_map book_head o → Puts contents a (day_line (codes "Day sheet ") day) b → PutsShare contents b
    (day_lines head.capacity day (pledges_of o)) (call_end done) held → w ≡ held → Shows contents a (option_map (book_sheet day) o) answer w
sheet_shows contents a b held w day None head done answer fine is at first share same = cc
sheet_shows contents a b held w day (Some book) head done answer fine is at first share same =
    let above = day_line (codes "Day sheet ") day in
    let below = subst (λ (x : BookHead). PutsShare contents b (day_lines x.capacity day book.pledges) (call_end done) held) (some_same at) share in
    shows_ended contents a w (book_sheet day book) done answer fine is
    (share_then {s = above} {t = day_lines book.capacity day book.pledges} writings_in_turn (share_puts writings_in_turn first)
    (subst (λ (x : Writing _). PutsShare contents b (day_lines book.capacity day book.pledges) (call_end done) x) (sym same) below))
