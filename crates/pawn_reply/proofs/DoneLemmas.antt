-- The bodies of replies to commands are JSON.
use Rattle.json.specs.Print.{escape}
use Rattle.pawn_debt.specs.declared.entry.Sort.{Sort}
use Rattle.pawn_debt.specs.declared.entry.Sort.TheVariants.{Draw, Repay}
use Rattle.pawn_pledge.specs.declared.record.BookingState.{BookingState}
use Rattle.pawn_pledge.specs.declared.record.BookingState.TheVariants.{Asked, Confirmed, Refused, Cancelled}
use Rattle.pawn_reply.proofs.BodyLemmas.{quoted}
use Rattle.pawn_reply.proofs.DayLemmas.{day_plain}
use Rattle.pawn_reply.specs.Common.{Booking, Entry, boolean, compact_text, day_text, member, no_members, object}
use Rattle.pawn_reply.specs.Common.{sort_text, state_text}
use Rattle.pawn_reply.specs.Done.{booked_text, declared_text, entered_text, extended_text, held_text, redeemed_text}
use Rattle.pawn_reply.specs.Laws.{booking_members, entry_members, is_unescaped, number_member, text_member}
use Rattle.serde_json.proofs.OnLiterals.{serde_json_on_literals}
use Rattle.std.proofs.Common.{◌≡◌, ℕ, List, [], ◌∷◌, ◌++◌, Bool, true, false, refl, ap, ◌∙◌, IsTrue, codes, decimal}

-- ---- words

sort_plain : (sort : Sort) → IsTrue (is_unescaped (sort_text sort))
sort_plain Draw = refl
sort_plain Repay = refl

state_plain : (state : BookingState) → IsTrue (is_unescaped (state_text state))
state_plain Asked = refl
state_plain Confirmed = refl
state_plain Refused = refl
state_plain Cancelled = refl

-- ---- bodies of plain texts

entry_json : (day : List ℕ) (pence seq : ℕ) (sort : List ℕ) → IsTrue (is_unescaped day) → IsTrue (is_unescaped sort)
    → entered_text day pence seq sort ≡ compact_text (object
    (text_member (codes "day") day (number_member (codes "pence") pence (number_member (codes "seq") seq (text_member (codes "sort") sort no_members)))))
unfolding serde_json_on_literals
entry_json day pence seq sort plain_day plain_sort = ap (λ (t : List ℕ). codes "{\"day\":\""
    ++ (day ++ (codes "\",\"pence\":" ++ (decimal pence ++ (codes ",\"seq\":" ++ (decimal seq ++ (codes ",\"sort\":\"" ++ t)))))))
    (quoted sort (codes "}") plain_sort) ∙ ap (λ (t : List ℕ). codes "{\"day\":\"" ++ t) (quoted day
    (codes ",\"pence\":" ++ (decimal pence ++ (codes ",\"seq\":" ++ (decimal seq ++ (codes ",\"sort\":\"" ++ ((escape sort ++ 34 ∷ []) ++ codes "}"))))))
    plain_day)

booking_json : (state day : List ℕ) (window : ℕ) → IsTrue (is_unescaped state) → IsTrue (is_unescaped day) → booked_text state day window ≡ compact_text
    (object (text_member (codes "booking") state (text_member (codes "day") day (number_member (codes "window") window no_members))))
unfolding serde_json_on_literals
booking_json state day window plain_state plain_day = ap (λ (t : List ℕ). codes "{\"booking\":\"" ++ (state ++ (codes "\",\"day\":\"" ++ t)))
    (quoted day (codes ",\"window\":" ++ (decimal window ++ codes "}")) plain_day) ∙ ap (λ (t : List ℕ). codes "{\"booking\":\"" ++ t)
    (quoted state (codes ",\"day\":\"" ++ ((escape day ++ 34 ∷ []) ++ (codes ",\"window\":" ++ (decimal window ++ codes "}")))) plain_state)

-- ---- the laws

pub entered_text-json : (entry : Entry)
    → entered_text (day_text entry.day) entry.pence entry.seq (sort_text entry.sort) ≡ compact_text (object (entry_members entry))
entered_text-json entry = entry_json (day_text entry.day) entry.pence entry.seq (sort_text entry.sort) (day_plain entry.day) (sort_plain entry.sort)

pub held_text-json : (barred : Bool) → held_text barred ≡ compact_text (object (member (codes "held") (boolean barred) no_members))
unfolding serde_json_on_literals
held_text-json true = refl
held_text-json false = refl

pub declared_text-json : (receipt : List ℕ) → IsTrue (is_unescaped receipt)
    → declared_text receipt ≡ compact_text (object (text_member (codes "receipt") receipt no_members))
unfolding serde_json_on_literals
declared_text-json receipt plain = ap (λ (t : List ℕ). codes "{\"receipt\":\"" ++ t) (quoted receipt (codes "}") plain)

pub booked_text-json : (booking : Booking)
    → booked_text (state_text booking.state) (day_text booking.day) booking.window ≡ compact_text (object (booking_members booking))
booked_text-json booking = booking_json (state_text booking.state) (day_text booking.day) booking.window (state_plain booking.state) (day_plain booking.day)

pub redeemed_text-json : (paid day : ℕ)
    → redeemed_text paid (day_text day) ≡ compact_text (object (number_member (codes "paid") paid (text_member (codes "redeemed") (day_text day) no_members)))
unfolding serde_json_on_literals
redeemed_text-json paid day =
    ap (λ (t : List ℕ). codes "{\"paid\":" ++ (decimal paid ++ (codes ",\"redeemed\":\"" ++ t))) (quoted (day_text day) (codes "}") (day_plain day))

pub extended_text-json : (until : ℕ) → extended_text (day_text until) ≡ compact_text (object (text_member (codes "ends") (day_text until) no_members))
unfolding serde_json_on_literals
extended_text-json until = ap (λ (t : List ℕ). codes "{\"ends\":\"" ++ t) (quoted (day_text until) (codes "}") (day_plain until))
