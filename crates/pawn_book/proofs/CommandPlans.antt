-- A plan of a command is the book's step.
use Rattle.pawn_book.proofs.KeptLemmas.{kept_moved}
use Rattle.pawn_book.proofs.Places.{pledge_within}
use Rattle.pawn_book.proofs.Plans.{changed_is}
use Rattle.pawn_book.proofs.SoundLists.{map-put, versions_put}
use Rattle.pawn_book.proofs.Sounds.{absurd_none, each_at, each_put, length-put, numbered_at, numbered_put, sound_with}
use Rattle.pawn_book.proofs.Words.{words_moved}
use Rattle.pawn_book.specs.BookStep.{BookValue, Makes, Outcome, Refuses, Says, bearer_commands, broker_commands}
use Rattle.pawn_book.specs.BookStep.{changed_book, is_live, outcome_of_step, live_at, only_live, pledge_from, pledge_in}
use Rattle.pawn_book.specs.BookStep.{put_from, within_window}
use Rattle.pawn_book.specs.Books.{Change, Planned, PutPledge, Refusal, Reply}
use Rattle.pawn_book.specs.Changes.{CanSave, Continues, book_number, with_change}
use Rattle.pawn_book.specs.Common.{Agreement, Answered, Changed, Command, Done, IsReachable, IsUtf8, StepResult}
use Rattle.pawn_book.specs.Common.{PledgeValue, Receipt, Refused, Stamp, pledge_step}
use Rattle.pawn_book.specs.HostStep.{Host, with_book}
use Rattle.pawn_book.specs.Plans.{FindsRoom, IsOutcome, Plans, outcome_of}
use Rattle.pawn_book.specs.Rows.{AreDistinct, IsUnder, terms_at}
use Rattle.pawn_book.specs.Sound.{AreSound, AreWords, HasTextsAndWords, IsSound, IsSoundBook, IsWord}
use Rattle.pawn_pledge.proofs.Steps.{stays_reachable}
use Rattle.pawn_pledge.specs.Commands.{IsCommand}
use Rattle.pawn_terms.specs.Calendar.{IsDayNumber, IsRequestDay}
use Rattle.std.proofs.Common.{◌≡◌, ℕ, Some, None, Ok, Err, refl, ◌∙◌, ap, sym, subst, arith, inl, inr, if◌then◌else◌}
use Rattle.std.proofs.Common.{Option, Result, Bool, true, false, IfSome}
use Rattle.std.specs.FinMap.{get}

-- a book with a pledge in place of an earlier one
sound_put : (book : BookValue) (n : ℕ) (p q : PledgeValue) → IsSoundBook book → pledge_from 1 book.pledges n ≡ Some p → Continues p q → IsReachable q
    → AreWords q.secrets → IsSoundBook (record book { pledges = put_from 1 book.pledges n q })
sound_put book n p q sound is kept reaches words =
    let within = pledge_within 1 book.pledges n p is in
    let low = within.0 in
    let high = within.1 in
    let number : q.agreement.number ≡ n = ap (λ (a : Agreement). a.number) kept.agreement ∙ numbered_at 1 book.pledges n p sound.rows.numbered is in
    let long = length-put 1 book.pledges n q low high in
    let few = sound.rows.few_pledges in
    let before = each_at HasTextsAndWords 1 book.pledges n p sound.texts_and_words is in
    record {
      key = sound.key;
      imported = sound.imported;
      utf8 = sound.utf8;
      name = sound.name;
      capacity = sound.capacity;
      rows = record {
        numbered = numbered_put 1 book.pledges n q sound.rows.numbered number low (omega (arith, high));
        reachable = each_put IsReachable 1 book.pledges n q sound.rows.reachable reaches;
        references = subst AreDistinct (sym (map-put (λ p. p.agreement.opening.reference) 1 book.pledges n p q is
            (ap (λ (a : Agreement). a.opening.reference) kept.agreement))) sound.rows.references;
        under = each_put (IsUnder book.terms) 1 book.pledges n q sound.rows.under (subst (λ (a : Agreement). terms_at book.terms a.version ≡ Some a.terms)
            (sym kept.agreement) (each_at (IsUnder book.terms) 1 book.pledges n p sound.rows.under is));
        versions = versions_put 1 0 book.pledges n p q is (ap (λ (a : Agreement). a.version) kept.agreement) sound.rows.versions;
        checked = sound.rows.checked;
        few_terms = sound.rows.few_terms;
        few_pledges = omega (arith, long, few);
      };
      texts_and_words = each_put HasTextsAndWords 1 book.pledges n q sound.texts_and_words (record {
        reference = subst (λ (a : Agreement). IsUtf8 a.opening.reference) (sym kept.agreement) before.reference;
        article = subst (λ (a : Agreement). IsUtf8 a.opening.article) (sym kept.agreement) before.article;
        secrets = words;
        taken = subst (λ (a : Agreement). IsDayNumber a.taken) (sym kept.agreement) before.taken;
      });
    }

-- the change that a command makes may be saved
put_saves : (h : Host) (b n : ℕ) (at : BookValue) (p q : PledgeValue) (stamp : Stamp) (command : Command) (done : Done) → IsSound h → get h.books b ≡ Some at
    → pledge_from 1 at.pledges n ≡ Some p
    → IsRequestDay stamp.day → IsWord stamp.word → IsCommand command → pledge_step p stamp command ≡ Changed q done → CanSave h (PutPledge b n q)
put_saves h b n at p q stamp command done sound is stands day word given step =
    let one = (sound.books b at is).1 in
    let kept = kept_moved p q stamp command done step in
    let reaches = stays_reachable p q stamp command done day given (each_at IsReachable 1 at.pledges n p one.rows.reachable stands) step in
    let words = words_moved p q stamp command done word (each_at HasTextsAndWords 1 at.pledges n p one.texts_and_words stands).secrets step in
    let book : BookValue = record at { pledges = put_from 1 at.pledges n q } in
    let same : with_change h (PutPledge b n q) ≡ with_book h b (Some book) =
    changed_is h b (PutPledge b n q) book refl (ap (λ o. changed_book o (PutPledge b n q)) is) in
    record {
      follows = (at, is, inr (p, stands, kept));
      sound = subst AreSound (sym same) (sound_with h b book sound.books ((sound.books b at is).0, sound_put at n p q one stands kept reaches words));
    }

abbrev change_of : Outcome → Change → Change
change_of (Refuses why) other = other
change_of (Says out) other = other
change_of (Makes change reply) other = change

-- the change of a command's outcome may be saved
pub command_saves : (h : Host) (b n : ℕ) (p : PledgeValue) (stamp : Stamp) (command : Command) (change : Option Change) (reply : Reply) → IsSound h
    → pledge_in (get h.books b) n ≡ Some p → IsRequestDay stamp.day → IsWord stamp.word → IsCommand command
    → outcome_of_step b n (pledge_step p stamp command) ≡ outcome_of change reply → IfSome change (λ c. (book_number c ≡ b) × CanSave h c)
command_saves h b n p stamp command None reply sound stands day word given is = tt
command_saves h b n p stamp command (Some change) reply sound stands day word given is = in_book (get h.books b) refl stands where
  stepped : (at : BookValue) (j : StepResult) → get h.books b ≡ Some at → pledge_from 1 at.pledges n ≡ Some p → pledge_step p stamp command ≡ j
      → outcome_of_step b n j ≡ Makes change reply → (book_number change ≡ b) × CanSave h change
  stepped at (Refused why) e there step made = cc made
  stepped at (Answered done) e there step made = cc made
  stepped at (Changed q done) e there step made =
      let same : PutPledge b n q ≡ change = ap (λ o. change_of o change) made in
      subst (λ (c : Change). (book_number c ≡ b) × CanSave h c) same (refl, put_saves h b n at p q stamp command done sound e there day word given step)

  in_book : (o : Option BookValue) → get h.books b ≡ o → pledge_in o n ≡ Some p → (book_number change ≡ b) × CanSave h change
  in_book None e there = absurd_none there
  in_book (Some at) e there = stepped at (pledge_step p stamp command) e there refl is

-- a bearer's command on the pledge of a live receipt
pub live_is : (s : ℕ) (o : Option PledgeValue) (p : PledgeValue) → Some p ≡ only_live s o → o ≡ Some p
live_is s None p is = absurd_none (sym is)
live_is s (Some q) p is = from (is_live s q) is where
  from : (v : Bool) → Some p ≡ (if v then Some q else None) → Some q ≡ Some p
  from true same = sym same
  from false none = absurd_none (sym none)

pub receipt_plans : (h : Host) (b : ℕ) (r : Receipt) (p : PledgeValue) (stamp : Stamp) (command : Command) (result : Result Planned Refusal) → IsSound h
    → Some p ≡ live_at (pledge_in (get h.books b)) r → IsRequestDay stamp.day → IsWord stamp.word → IsCommand command
    → IsOutcome (outcome_of_step b r.number (pledge_step p stamp command)) result
    → Plans h b (bearer_commands b r.number stamp command (live_at (pledge_in (get h.books b)) r)) result
receipt_plans h b r p stamp command (Ok planned) sound live day word given is =
    let stands = live_is r.secret (pledge_in (get h.books b) r.number) p live in (
      ap (bearer_commands b r.number stamp command) (sym live) ∙ is,
      command_saves h b r.number p stamp command planned.change planned.reply sound stands day word given is,
    )
receipt_plans h b r p stamp command (Err why) sound live day word given (inl unwell) = inl unwell
receipt_plans h b r p stamp command (Err why) sound live day word given (inr is) = inr (ap (bearer_commands b r.number stamp command) (sym live) ∙ is)

-- the outcome of a broker's command is that of the plan, unless the window is full
room_steps : (h : Host) (b n : ℕ) (at : BookValue) (p : PledgeValue) (stamp : Stamp) (command : Command) (planned : Planned) → get h.books b ≡ Some at
    → Some p ≡ pledge_in (get h.books b) n → outcome_of_step b n (pledge_step p stamp command) ≡ outcome_of planned.change planned.reply
    → broker_commands at b n stamp command (pledge_from 1 at.pledges n) ≡ within_window at (outcome_of planned.change planned.reply)
room_steps h b n at p stamp command planned is stands stepped =
    ap (broker_commands at b n stamp command) (ap (λ o. pledge_in o n) (sym is) ∙ sym stands) ∙ ap (within_window at) stepped

-- a broker's command for which there is room
pub number_plans : (h : Host) (b n : ℕ) (at : BookValue) (p : PledgeValue) (stamp : Stamp) (command : Command) (planned : Planned) → IsSound h
    → get h.books b ≡ Some at → Some p ≡ pledge_in (get h.books b) n → IsRequestDay stamp.day → IsWord stamp.word → IsCommand command
    → outcome_of_step b n (pledge_step p stamp command) ≡ outcome_of planned.change planned.reply
    → FindsRoom at (outcome_of planned.change planned.reply) (Ok tt)
    → Plans h b (broker_commands at b n stamp command (pledge_from 1 at.pledges n)) (Ok planned)
number_plans h b n at p stamp command planned sound is stands day word given stepped roomed = (
  room_steps h b n at p stamp command planned is stands stepped ∙ roomed,
  command_saves h b n p stamp command planned.change planned.reply sound (sym stands) day word given stepped,
)

-- a broker's command for which there is none
pub number_refused : (h : Host) (b n : ℕ) (at : BookValue) (p : PledgeValue) (stamp : Stamp) (command : Command) (planned : Planned) (why : Refusal)
    → get h.books b ≡ Some at → Some p ≡ pledge_in (get h.books b) n
    → outcome_of_step b n (pledge_step p stamp command) ≡ outcome_of planned.change planned.reply
    → FindsRoom at (outcome_of planned.change planned.reply) (Err why)
    → Plans h b (broker_commands at b n stamp command (pledge_from 1 at.pledges n)) (Err why)
number_refused h b n at p stamp command planned why is stands stepped (inl unwell) = inl unwell
number_refused h b n at p stamp command planned why is stands stepped (inr told) = inr (room_steps h b n at p stamp command planned is stands stepped ∙ told)
