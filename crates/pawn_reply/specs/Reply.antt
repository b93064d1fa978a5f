-- The bytes of replies.
use Rattle.http.specs.StatusCode.{status_text}
use Rattle.pawn_book.specs.declared.reply.Reply.{Reply}
use Rattle.pawn_book.specs.declared.reply.Reply.TheVariants.{BookFilled, BookMade, Commanded, Opened, TermsPut}
use Rattle.pawn_reply.specs.Bodies.{book_text, version_text, filled_text, opened_text, refusal_text}
use Rattle.pawn_reply.specs.Common.{receipt_text}
use Rattle.pawn_reply.specs.Done.{commanded_text}
use Rattle.pawn_reply.specs.Fault.{wire_fault_code, detail_of, wire_fault_name}
use Rattle.pawn_reply.specs.Status.{reply_status}
use Rattle.pawn_reply.specs.Types.{Detail, Memory, Out, Total, WireFault}
use Rattle.std.specs.Prelude.{ℕ, List, ◌++◌, length, codes, decimal, Option, option_map}
use Rattle.pawn_book.specs.Refusals as book

-- the head of a reply: its status, the length of its body and the body's type
abbrev pub head_text : ℕ → ℕ → List ℕ → List ℕ
head_text status length kind =
    codes "HTTP/1.1 " ++ (status_text status ++ (codes "\r\nContent-Length: " ++ (decimal length
    ++ (codes "\r\nContent-Type: " ++ (kind ++ codes "\r\n\r\n")))))

-- a reply: its head and its body
abbrev pub reply_text : ℕ → List ℕ → List ℕ → List ℕ
reply_text status kind body = head_text status (length body) kind ++ body

-- a reply whose body is JSON
abbrev pub json_text : ℕ → List ℕ → List ℕ
json_text status body = reply_text status (codes "application/json") body

-- the reply to a refusal or a fault: its code and name, and the sum owing or the row of a text, if it has one
abbrev pub refused_text : ℕ → List ℕ → Option Detail → List ℕ
refused_text code name detail = json_text (reply_status code) (refusal_text code name detail)

-- the reply to bytes that are not a valid request
abbrev pub fault_text : WireFault → List ℕ
fault_text fault = refused_text (wire_fault_code fault) (wire_fault_name fault) (detail_of fault)

-- the reply when memory runs out
abbrev pub memory_text : List ℕ
memory_text = fault_text Memory

-- the body that states what was done
abbrev pub done_text : Reply → List ℕ
done_text (BookMade book) = book_text book
done_text (TermsPut version) = version_text version
done_text (BookFilled pledges) = filled_text pledges
done_text (Opened receipt) = opened_text receipt.number (receipt_text receipt)
done_text (Commanded number done) = commanded_text number done

-- the whole reply
abbrev pub out_text : Out → List ℕ
out_text (Out.Done reply) = json_text 200 (done_text reply)
out_text (Out.Refused why) = refused_text (book.book_refusal_code why) (book.book_refusal_name why) (option_map Total (book.reported_total why))
out_text (Out.Fault fault) = fault_text fault
out_text (Out.Plain text) = reply_text 200 (codes "text/plain; charset=utf-8") text.items
out_text (Out.Csv text) = reply_text 200 (codes "text/csv; charset=utf-8") text.items
