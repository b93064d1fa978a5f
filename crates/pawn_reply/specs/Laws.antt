-- Laws of the bodies of replies.
use Rattle.pawn_reply.specs.Bodies.{book_text, filled_text, opened_text, refusal_text, version_text}
use Rattle.pawn_reply.specs.Common.{Booking, Entry, Members, boolean, compact_text, day_text, list_all, member}
use Rattle.pawn_reply.specs.Common.{no_members, number, object, sort_text, state_text, string, unsigned}
use Rattle.pawn_reply.specs.Done.{booked_text, declared_text, entered_text, extended_text, held_text, redeemed_text}
use Rattle.pawn_reply.specs.Done.{sold_text}
use Rattle.pawn_reply.specs.Types.{Detail, Row, Total}
use Rattle.std.specs.Prelude.{◌≡◌, ℕ, List, codes, Bool, IsTrue, ◌&&◌, not, ◌==◌, nat_le, Option, Some, None}

-- the text has no byte that JSON would escape
abbrev pub is_unescaped : List ℕ → Bool
is_unescaped s = list_all (λ b. nat_le 32 b && not (b == 34) && not (b == 92)) s

abbrev pub number_member : List ℕ → ℕ → Members → Members
number_member name n rest = member name (number (unsigned n)) rest

abbrev pub text_member : List ℕ → List ℕ → Members → Members
text_member name text rest = member name (string text) rest

-- the members of a refusal's body
abbrev pub refusal_members : ℕ → List ℕ → Option Detail → Members
refusal_members code name None = number_member (codes "code") code (text_member (codes "name") name no_members)
refusal_members code name (Some (Total total)) =
    number_member (codes "code") code (text_member (codes "name") name (number_member (codes "total") total no_members))
refusal_members code name (Some (Row row)) =
    number_member (codes "code") code (text_member (codes "name") name (number_member (codes "row") row no_members))

-- the members of an entry's body
abbrev pub entry_members : Entry → Members
entry_members entry =
    text_member (codes "day") (day_text entry.day)
    (number_member (codes "pence") entry.pence
    (number_member (codes "seq") entry.seq
    (text_member (codes "sort") (sort_text entry.sort) no_members)))

-- the members of a booking's body
abbrev pub booking_members : Booking → Members
booking_members booking =
    text_member (codes "booking") (state_text booking.state)
    (text_member (codes "day") (day_text booking.day)
    (number_member (codes "window") booking.window no_members))

-- the bodies of replies are compact JSON, with their members in the order of their names
pub record BodiesAreJson : Type 0 where
  pub book : (book : ℕ) → book_text book ≡ compact_text (object (number_member (codes "book") book no_members))
  pub filled : (pledges : ℕ) → filled_text pledges ≡ compact_text (object (number_member (codes "imported") pledges no_members))
  pub version : (version : ℕ) → version_text version ≡ compact_text (object (number_member (codes "version") version no_members))
  pub opened : (number : ℕ) (receipt : List ℕ) → IsTrue (is_unescaped receipt)
      → opened_text number receipt ≡ compact_text (object (number_member (codes "number") number (text_member (codes "receipt") receipt no_members)))
  pub refusal : (code : ℕ) (name : List ℕ) (detail : Option Detail) → IsTrue (is_unescaped name)
      → refusal_text code name detail ≡ compact_text (object (refusal_members code name detail))
  pub entered : (entry : Entry) → entered_text (day_text entry.day) entry.pence entry.seq (sort_text entry.sort) ≡ compact_text (object (entry_members entry))
  pub held : (barred : Bool) → held_text barred ≡ compact_text (object (member (codes "held") (boolean barred) no_members))
  pub declared : (receipt : List ℕ) → IsTrue (is_unescaped receipt)
      → declared_text receipt ≡ compact_text (object (text_member (codes "receipt") receipt no_members))
  pub booked : (booking : Booking)
      → booked_text (state_text booking.state) (day_text booking.day) booking.window ≡ compact_text (object (booking_members booking))
  pub redeemed : (paid day : ℕ)
      → redeemed_text paid (day_text day) ≡ compact_text (object (number_member (codes "paid") paid (text_member (codes "redeemed") (day_text day) no_members)))
  pub sold : (net shortfall surplus : ℕ)
      → sold_text net shortfall surplus
      ≡ compact_text
      (object (number_member (codes "net") net (number_member (codes "shortfall") shortfall (number_member (codes "surplus") surplus no_members))))
  pub extended : (until : ℕ) → extended_text (day_text until) ≡ compact_text (object (text_member (codes "ends") (day_text until) no_members))
