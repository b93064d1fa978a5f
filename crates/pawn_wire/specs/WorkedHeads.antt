-- Worked examples of heads of requests.
use Rattle.httparse.specs.Grammar.{Field, RequestHead, crlf, print_request}
use Rattle.pawn_wire.specs.Fields.{Pair}
use Rattle.pawn_wire.specs.Head.{IsHead, fields_of, body_length, closes_by}
use Rattle.pawn_wire.specs.Types.{HeadFault}
use Rattle.std.specs.Prelude.{◌≡◌, ℕ, List, [], ◌∷◌, codes, false, true, Ok, Err}

-- a field's line: its name, and its value with the white space around it
abbrev pub line : List ℕ → List ℕ → Field
line name raw = record { name = name; raw = raw; end = crlf }

-- a head of HTTP/1.0 or of HTTP/1.1
abbrev pub head_of : List ℕ → List ℕ → ℕ → List Field → RequestHead
head_of method target minor fields =
    record { blank = []; method = method; target = target; minor = minor; line_end = crlf; fields = fields; last = crlf }

-- the head of a request that presents a receipt
abbrev pub held_head : RequestHead
held_head =
    head_of (codes "GET") (codes "/books/7/held") 1
    (line (codes "Host") (codes " x") ∷ line (codes "pledge-receipt") (codes " \t1-da41597c-5157-488d-7724-e03fb8d84a37 ") ∷ [])

-- the head of a request with a body, over HTTP/1.0
abbrev pub terms_head : RequestHead
terms_head =
    head_of (codes "POST") (codes "/books/7/terms") 0 (line (codes "CONTENT-LENGTH") (codes "53") ∷ [])

-- a head's bytes, its fields, its length, the length of its body, and whether the connection closes
abbrev pub WorkedHeads : Type 0
WorkedHeads =
    (print_request held_head ≡ codes "GET /books/7/held HTTP/1.1\r\nHost: x\r\npledge-receipt: \t1-da41597c-5157-488d-7724-e03fb8d84a37 \r\n\r\n")
    × (fields_of held_head ≡ (codes "Host", codes "x") ∷ (codes "pledge-receipt", codes "1-da41597c-5157-488d-7724-e03fb8d84a37") ∷ [])
    × IsHead held_head (record { len = 97; body = 0; closes = false })
    × (print_request terms_head ≡ codes "POST /books/7/terms HTTP/1.0\r\nCONTENT-LENGTH:53\r\n\r\n")
    × IsHead terms_head (record { len = 51; body = 53; closes = true })

-- a field that gives the body's length
abbrev pub states_length : List ℕ → Pair
states_length value = (codes "Content-Length", value)

-- a field that states that the body is in another coding
abbrev pub chunked_coding : Pair
chunked_coding = (codes "Transfer-Encoding", codes "chunked")

-- lengths of 1 to 19 digits, up to 1,048,576 bytes; a length that is malformed or given twice; and a body in another
-- coding
abbrev pub WorkedLengths : Type 0
WorkedLengths =
    (body_length [] ≡ Ok 0)
    × (body_length (states_length (codes "80") ∷ []) ≡ Ok 80)
    × (body_length ((codes "content-LENGTH", codes "0080") ∷ []) ≡ Ok 80)
    × (body_length (states_length (codes "1048576") ∷ []) ≡ Ok 1048576)
    × (body_length (states_length (codes "1048577") ∷ []) ≡ Err HeadFault.BodyTooLong)
    × (body_length (states_length (codes "0000000000000000001") ∷ []) ≡ Ok 1)
    × (body_length (states_length (codes "9999999999999999999") ∷ []) ≡ Err HeadFault.BodyTooLong)
    × (body_length (states_length (codes "00000000000000000001") ∷ []) ≡ Err HeadFault.BadLength)
    × (body_length (states_length [] ∷ []) ≡ Err HeadFault.BadLength)
    × (body_length (states_length (codes "+5") ∷ []) ≡ Err HeadFault.BadLength)
    × (body_length (states_length (codes "5") ∷ states_length (codes "5") ∷ []) ≡ Err HeadFault.BadLength)
    × (body_length (chunked_coding ∷ []) ≡ Err HeadFault.Transfer)
    × (body_length (states_length (codes "+5") ∷ chunked_coding ∷ []) ≡ Err HeadFault.Transfer)

-- a field that states whether the connection closes
abbrev pub states_connection : List ℕ → Pair
states_connection value = (codes "Connection", value)

-- a connection closes under HTTP/1.0, and if a field's whole value is `close`
abbrev pub WorkedConnections : Type 0
WorkedConnections =
    (closes_by 1 [] ≡ false)
    × (closes_by 0 [] ≡ true)
    × (closes_by 0 (states_connection (codes "keep-alive") ∷ []) ≡ true)
    × (closes_by 1 (states_connection (codes "CLOSE") ∷ []) ≡ true)
    × (closes_by 1 (states_connection (codes "close, te") ∷ []) ≡ false)
    × (closes_by 1 (states_connection (codes "te") ∷ (codes "connection", codes "close") ∷ []) ≡ true)
    × (closes_by 1 ((codes "Host", codes "close") ∷ []) ≡ false)
