-- A book's text, written in parts, and how the export ends.
use Rattle.pawn_book.specs.declared.change.BookHead.{BookHead}
use Rattle.pawn_csv.proofs.Basics.{◌≡◌, ◌∙◌, ℕ, Bool, true, false, List, [], ◌∷◌, ◌++◌, length, Option, Some, None}
use Rattle.pawn_csv.proofs.Basics.{Result, Ok, Err, refl, sym, ap, subst, map, option_map, unwrap_or, flat_map-append}
use Rattle.pawn_csv.proofs.Basics.{or_from, share_all, share_more, share_puts, share_then}
use Rattle.pawn_csv.proofs.SentLemmas.{rows_in_turn}
use Rattle.pawn_csv.specs.Common.{BookValue, End, Front, KeepError, ViewFault, Whole, book_head, call_end}
use Rattle.pawn_csv.specs.Common.{default_writer, flat_map, pledges_of, row_text, rows_of_book, terms_of}
use Rattle.pawn_csv.specs.Exports.{Exports, result_of_export, sink_result}
use Rattle.pawn_csv.specs.Rows.{csv_of, header, pledge_csv_rows, row_fields, terms_rows}
use Rattle.pawn_csv.specs.Sent.{PutsRow, PutsRowsShare, has_ended, seen, text_of_row}
use Rattle.pawn_csv.specs.Types.{Row, Sink, Version}
use Rattle.pawn_writing.proofs.PutLemmas.{front-more, now_by}
use Rattle.pawn_writing.specs.Ends.{PutFront, Written, end_by, write_failed}

-- the rows after the first
abbrev pub below_text : BookValue → List ℕ
below_text at = flat_map text_of_row (terms_rows 1 at.terms) ++ flat_map text_of_row (flat_map pledge_csv_rows at.pledges)

pub rows_cut : {W : Type 0} {contents : W → Option (List ℕ)} {a b : Sink W} (o : Option BookValue) (at : BookValue) (head : BookHead) → o ≡ Some at
    → head ≡ book_head at → (head.terms ≡ length (terms_of o) → PutsRowsShare contents a (flat_map text_of_row (terms_rows 1 (terms_of o))) Front b)
    → PutsRowsShare contents a (below_text at) Front b
rows_cut {contents = contents} {a = a} {b = b} o at head is head_is terms =
    let count : head.terms ≡ length (terms_of o) = ap (λ (x : BookHead). x.terms) head_is ∙ ap (λ (x : Option BookValue). length (terms_of x)) (sym is) in
    share_more rows_in_turn (flat_map text_of_row (flat_map pledge_csv_rows at.pledges))
    (subst (λ (x : Option BookValue). PutsRowsShare contents a (flat_map text_of_row (terms_rows 1 (terms_of x))) Front b) is (terms count))

pub rows_whole : {W : Type 0} {contents : W → Option (List ℕ)} {a b c : Sink W} {end : End} (o : Option BookValue) (at : BookValue) (head : BookHead)
    → o ≡ Some at → head ≡ book_head at
    → (head.terms ≡ length (terms_of o) → PutsRowsShare contents a (flat_map text_of_row (terms_rows 1 (terms_of o))) Whole b)
    → PutsRowsShare contents b (flat_map text_of_row (flat_map pledge_csv_rows (pledges_of o))) end c
    → PutsRowsShare contents a (below_text at) end c
rows_whole {contents = contents} {a = a} {b = b} {c = c} {end = end} o at head is head_is terms pledges =
    let count : head.terms ≡ length (terms_of o) = ap (λ (x : BookHead). x.terms) head_is ∙ ap (λ (x : Option BookValue). length (terms_of x)) (sym is) in
    share_then rows_in_turn
    (subst (λ (x : Option BookValue). PutsRowsShare contents a (flat_map text_of_row (terms_rows 1 (terms_of x))) Whole b) is (terms count))
    (subst (λ (x : Option BookValue). PutsRowsShare contents b (flat_map text_of_row (flat_map pledge_csv_rows (pledges_of x))) end c) is pledges)

lines_mapped : (rows : List Row) → flat_map text_of_row rows ≡ flat_map (row_text default_writer) (map row_fields rows)
lines_mapped [] = refl
lines_mapped (r ∷ rs) = ap (λ (t : List ℕ). text_of_row r ++ t) (lines_mapped rs)

-- the first row of a book
abbrev pub count_text : ℕ → ℕ → List ℕ
count_text terms pledges = text_of_row (Row.Book Version.Two terms pledges)

book_is : (at : BookValue) → row_text default_writer header ++ (count_text (length at.terms) (length at.pledges) ++ below_text at) ≡ csv_of (rows_of_book at)
book_is at = ap (λ (t : List ℕ). row_text default_writer header ++ (count_text (length at.terms) (length at.pledges) ++ t)) (sym (flat_map-append text_of_row
    (terms_rows 1 at.terms) (flat_map pledge_csv_rows at.pledges)) ∙ lines_mapped (terms_rows 1 at.terms ++ flat_map pledge_csv_rows at.pledges))

-- ---- how an export ends

-- however it ends, a prefix of the text was written
front_sent : {W : Type 0} (contents : W → Option (List ℕ)) (a w : Sink W) (text : List ℕ) (end : End) → has_ended a ≡ false
    → PutsRowsShare contents a text end w → PutFront contents (seen a) text (seen w)
front_sent contents a w text end fine share = from (has_ended w) refl (share.3.fine fine) where
  from : (v : Bool) → has_ended w ≡ v → Written contents (seen a) share.0 (end_by (has_ended w)) (seen w) → PutFront contents (seen a) text (seen w)
  from true is written =
      let front = now_by contents (seen a) (seen w) share.0 true is written in
      subst (λ (t : List ℕ). PutFront contents (seen a) t (seen w)) share.2 (front-more contents (seen a) (seen w) share.0 share.1 front.0)
  from false is written = let sent = now_by contents (seen a) (seen w) share.0 false is written in (share.0, share.1, share.2, sent.0)

whole_sent : {W : Type 0} (contents : W → Option (List ℕ)) (a w : Sink W) (text : List ℕ) → has_ended a ≡ false → has_ended w ≡ false
    → PutsRowsShare contents a text Whole w → Written contents (seen a) text Whole (seen w)
whole_sent contents a w text fine going share = subst (λ (t : List ℕ). Written contents (seen a) t Whole (seen w)) (share_all share.2 (share.4 going refl))
    (now_by contents (seen a) (seen w) share.0 false going (share.3.fine fine))

exports_by : {W : Type 0} (contents : W → Option (List ℕ)) (a w : Sink W) (text : List ℕ) (done : Result (Unit {0}) KeepError) (failed starved : Bool)
    → has_ended a ≡ false → write_failed w.writer ≡ failed → w.is_starved ≡ starved → PutsRowsShare contents a text (call_end done) w
    → Exports contents a (Some text) (result_of_export done failed starved) w
exports_by contents a w text done true starved fine now fed share = (text, refl, front_sent contents a w text (call_end done) fine share, now)
exports_by contents a w text done false true fine now fed share = (front_sent contents a w text (call_end done) fine share, now)
exports_by contents a w text (Ok u) false false fine now fed share =
    let sent = whole_sent contents a w text fine (or_from (write_failed w.writer) w.is_starved now fed) share in (text, refl, sent)
exports_by contents a w text (Err KeepError.Memory) false false fine now fed share = (front_sent contents a w text Front fine share, now)
exports_by contents a w text (Err (KeepError.Store why)) false false fine now fed share = (front_sent contents a w text Front fine share, now)

head_of : (head : BookHead) (at : BookValue) → Some head ≡ Some (book_head at) → head ≡ book_head at
head_of head at e = ap (λ (x : Option BookHead). unwrap_or x head) e

-- after the text of a book was written, the answer states how that ended
pub book_exported : {W : Type 0} (contents : W → Option (List ℕ)) (a b c w : Sink W) (o : Option BookValue) (head : BookHead) (done : Result
    (Unit {0}) KeepError) (answer : Result (Unit {0}) ViewFault) → has_ended a ≡ false → answer ≡ sink_result done w → Some head ≡ option_map book_head o
    → PutsRow contents a (row_text default_writer header) b → PutsRow contents b (count_text head.terms head.pledges) c → ((at : BookValue) → o ≡ Some at → head
    ≡ book_head at → PutsRowsShare contents c (below_text at) (call_end done) w) → Exports contents a (option_map (λ at. csv_of (rows_of_book at)) o) answer w
book_exported contents a b c w None head done answer fine is at first second share = cc
book_exported contents a b c w (Some book) head done answer fine is at first second share =
    let same = head_of head book at in
    let count : PutsRow contents b (count_text (length book.terms) (length book.pledges)) c =
    subst (λ (x : BookHead). PutsRow contents b (count_text x.terms x.pledges) c) same second in
    subst (λ (r : Result (Unit {0}) ViewFault). Exports contents a (Some (csv_of (rows_of_book book))) r w) (sym is) (exports_by contents a w
    (csv_of (rows_of_book book)) done (write_failed w.writer) w.is_starved fine refl refl (subst (λ (t : List ℕ). PutsRowsShare contents a t (call_end done) w)
    (book_is book) (share_then rows_in_turn (share_puts rows_in_turn first) (share_then rows_in_turn (share_puts rows_in_turn count) (share book refl same)))))
