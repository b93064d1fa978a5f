-- Worked examples of replies.
use Rattle.pawn_book.specs.declared.refusal.Refusal.TheVariants.{NoSuchReceipt, NotOperator, BookTaken, Full}
use Rattle.pawn_book.specs.declared.reply.Reply.TheVariants.{BookFilled, BookMade, Opened, TermsPut}
use Rattle.pawn_reply.specs.Common.{Receipt, Cause}
use Rattle.pawn_reply.specs.Reply.{memory_text, out_text}
use Rattle.pawn_reply.specs.Status.{reply_status}
use Rattle.pawn_reply.specs.Types.{BadBody, Csv, NoRoute, Out, WireFault}
use Rattle.std.specs.Prelude.{◌≡◌, codes}

-- the first and the last code of each row of the table of statuses, and codes outside of it, whose status is 409
abbrev pub WorkedReplyStatuses : Type 0
WorkedReplyStatuses =
    (reply_status 101 ≡ 400) × (reply_status 104 ≡ 400) × (reply_status 201 ≡ 400) × (reply_status 202 ≡ 409)
    × (reply_status 301 ≡ 409) × (reply_status 312 ≡ 409) × (reply_status 313 ≡ 400) × (reply_status 314 ≡ 409)
    × (reply_status 401 ≡ 404) × (reply_status 403 ≡ 404) × (reply_status 404 ≡ 409) × (reply_status 409 ≡ 409)
    × (reply_status 410 ≡ 403) × (reply_status 411 ≡ 409) × (reply_status 412 ≡ 409)
    × (reply_status 490 ≡ 503) × (reply_status 492 ≡ 503)
    × (reply_status 601 ≡ 400) × (reply_status 607 ≡ 400)
    × (reply_status 701 ≡ 400) × (reply_status 705 ≡ 400) × (reply_status 706 ≡ 404) × (reply_status 707 ≡ 400) × (reply_status 712 ≡ 400)

-- whole replies to refusals, with the statuses 404, 403, 409 and 503
abbrev pub WorkedRefusals : Type 0
WorkedRefusals =
    (out_text (Out.Refused NoSuchReceipt)
    ≡ codes "HTTP/1.1 404 Not Found\r\nContent-Length: 35\r\nContent-Type: application/json\r\n\r\n{\"code\":402,\"name\":\"NoSuchReceipt\"}")
    × (out_text (Out.Refused NotOperator)
    ≡ codes "HTTP/1.1 403 Forbidden\r\nContent-Length: 33\r\nContent-Type: application/json\r\n\r\n{\"code\":410,\"name\":\"NotOperator\"}")
    × (out_text (Out.Refused BookTaken)
    ≡ codes "HTTP/1.1 409 Conflict\r\nContent-Length: 31\r\nContent-Type: application/json\r\n\r\n{\"code\":404,\"name\":\"BookTaken\"}")
    × (out_text (Out.Refused Full)
    ≡ codes "HTTP/1.1 503 Service Unavailable\r\nContent-Length: 26\r\nContent-Type: application/json\r\n\r\n{\"code\":490,\"name\":\"Full\"}")

-- whole replies to bytes that are not a valid request, and the reply when memory runs out
abbrev pub WorkedFaults : Type 0
WorkedFaults =
    (out_text (Out.Fault WireFault.BadHead)
    ≡ codes "HTTP/1.1 400 Bad Request\r\nContent-Length: 29\r\nContent-Type: application/json\r\n\r\n{\"code\":701,\"name\":\"BadHead\"}")
    × (out_text (Out.Fault NoRoute)
    ≡ codes "HTTP/1.1 404 Not Found\r\nContent-Length: 29\r\nContent-Type: application/json\r\n\r\n{\"code\":706,\"name\":\"NoRoute\"}")
    × (out_text (Out.Fault BadBody)
    ≡ codes "HTTP/1.1 400 Bad Request\r\nContent-Length: 29\r\nContent-Type: application/json\r\n\r\n{\"code\":708,\"name\":\"BadBody\"}")
    × (out_text (Out.Fault (Csv (record { cause = Cause.BadField; row = 7 })))
    ≡ codes "HTTP/1.1 400 Bad Request\r\nContent-Length: 38\r\nContent-Type: application/json\r\n\r\n{\"code\":603,\"name\":\"BadField\",\"row\":7}")
    × (memory_text
    ≡ codes "HTTP/1.1 503 Service Unavailable\r\nContent-Length: 28\r\nContent-Type: application/json\r\n\r\n{\"code\":491,\"name\":\"Memory\"}")

-- the first receipt of pledge 1
abbrev pub first_receipt_of_ring : Receipt
first_receipt_of_ring = record { number = 1; secret = 0xda41597c_5157_488d_7724_e03fb8d84a37 }

-- whole replies to requests that were done
abbrev pub WorkedAnswers : Type 0
WorkedAnswers =
    (out_text (Out.Done (BookMade 7))
    ≡ codes "HTTP/1.1 200 OK\r\nContent-Length: 10\r\nContent-Type: application/json\r\n\r\n{\"book\":7}")
    × (out_text (Out.Done (TermsPut 1))
    ≡ codes "HTTP/1.1 200 OK\r\nContent-Length: 13\r\nContent-Type: application/json\r\n\r\n{\"version\":1}")
    × (out_text (Out.Done (BookFilled 2))
    ≡ codes "HTTP/1.1 200 OK\r\nContent-Length: 14\r\nContent-Type: application/json\r\n\r\n{\"imported\":2}")
    × (out_text (Out.Done (Opened first_receipt_of_ring))
    ≡ codes
    "HTTP/1.1 200 OK\r\nContent-Length: 63\r\nContent-Type: application/json\r\n\r\n{\"number\":1,\"receipt\":\"1-da41597c-5157-488d-7724-e03fb8d84a37\"}")
