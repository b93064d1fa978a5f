-- Which secret of a pledge is live.
use Rattle.pawn_pledge.proofs.Moves.{Move, changed-is, past-shared, unless-changed, pledge_moves, Entering, Declaring}
use Rattle.pawn_pledge.proofs.Moves.{Extending, Settling}
use Rattle.pawn_pledge.proofs.Pushes.{last_element-push}
use Rattle.pawn_pledge.proofs.Settled.{IsGated}
use Rattle.pawn_pledge.specs.Laws.{EarlierAreSpent, IsSpent, NeverLiveAgain}
use Rattle.pawn_pledge.specs.Pledge.{PledgeValue, last_secret, live_of, live_under}
use Rattle.pawn_pledge.specs.Step.{Answered, Changed, StepResult, Refused, shared_refusals, declare_refusals, declare_step, pledge_after}
use Rattle.pawn_pledge.specs.Step.{pledge_step, redeem_refusals, redeem_step, unless}
use Rattle.pawn_pledge.specs.Words.{close, is_open, issue_of, with_secret}
use Rattle.pawn_pledge.specs.declared.command.Command.{Command}
use Rattle.pawn_pledge.specs.declared.command.Done.{Done}
use Rattle.pawn_pledge.specs.declared.command.Paper.{Paper}
use Rattle.pawn_pledge.specs.declared.command.Stamp.{Stamp}
use Rattle.pawn_pledge.specs.declared.record.Closing.{Closing}
use Rattle.pawn_pledge.specs.declared.record.Issued.{Issued}
use Rattle.std.proofs.Common.{◌≡◌, None, ℕ, ◌==◌, ◌||◌, Bool, true, false, List, [], ◌∷◌, ◌++◌, Option, Some}
use Rattle.std.proofs.Common.{option_map, refl, sym, ap, subst, ◌∙◌, true≢false}
use Rattle.std.proofs.lemmas.List.Folds.{list_any-append}
use Rattle.std.specs.List.{list_any}

-- every command on a closed pledge is refused
pub closed-moved : (c : Closing) → is_open c ≡ false → c ≡ Closing.Open → ⊥
closed-moved c shut is = true≢false (sym (ap is_open is) ∙ shut)

-- if the secrets and the closing stay the same, the live secret does
spent-same : (p q : PledgeValue) (secret : ℕ) → IsSpent p secret → q.secrets ≡ p.secrets → q.standing.closing ≡ p.standing.closing → IsSpent q secret
spent-same p q secret h secrets closing =
    record {
      issued = ap (λ (l : List Issued). list_any (λ (i : Issued). i.secret == secret) l) secrets ∙ h.issued;
      not_live = λ k. h.not_live (sym (ap (λ (c : Closing). live_under c (last_secret p.secrets)) closing)
          ∙ sym (ap (λ (l : List Issued). live_under q.standing.closing (last_secret l)) secrets) ∙ k);
    }

-- the same for a move that changes neither
spent-kept : (p q r : PledgeValue) (secret : ℕ) → IsSpent p secret → q ≡ r → r.secrets ≡ p.secrets → r.standing.closing ≡ p.standing.closing → IsSpent q secret
spent-kept p q r secret h is secrets closing =
    spent-same p q secret h (ap (λ (v : PledgeValue). v.secrets) is ∙ secrets) (ap (λ (v : PledgeValue). v.standing.closing) is ∙ closing)

list_any-first : (secret : ℕ) (xs ys : List Issued) → list_any (λ (i : Issued). i.secret == secret) xs ≡ true
    → list_any (λ (i : Issued). i.secret == secret) (xs ++ ys) ≡ true
list_any-first secret xs ys h =
    list_any-append (λ (i : Issued). i.secret == secret) xs ys ∙ ap (λ (b : Bool). b || list_any (λ (i : Issued). i.secret == secret) ys) h

spent-declared : (p q : PledgeValue) (x : ℕ) (new : Issued) (secret : ℕ) → list_any (λ (i : Issued). i.secret == secret) p.secrets ≡ true → IsGated p x
    → q.secrets ≡ p.secrets ++ new ∷ [] → q.standing.closing ≡ p.standing.closing
    → list_any (λ (i : Issued). i.secret == new.secret) p.secrets ≡ false → IsSpent q secret
spent-declared p q x new secret old g secrets closing fresh =
    record {
      issued = ap (λ (l : List Issued). list_any (λ (i : Issued). i.secret == secret) l) secrets ∙ list_any-first secret p.secrets (new ∷ []) old;
      not_live = λ k.
          let live : live_of q ≡ Some new.secret =
          ap (λ (c : Closing). live_under c (last_secret q.secrets)) (closing ∙ g.standing)
          ∙ ap last_secret secrets ∙ ap (option_map (λ (i : Issued). i.secret)) (last_element-push p.secrets new) in
          let e : Some new.secret ≡ Some secret = sym live ∙ k in
          let same : new.secret ≡ secret = cc in
          let F : ℕ → Type 0 = λ n. list_any (λ (i : Issued). i.secret == n) p.secrets ≡ false in
          true≢false (sym old ∙ subst F same fresh);
    }

-- a closing makes no secret live
live_under-some : (c : Closing) (o : Option ℕ) (secret : ℕ) → live_under c o ≡ Some secret → o ≡ Some secret
live_under-some Closing.Open o secret h = h
live_under-some (Closing.Redeemed day paid) o secret h = cc
live_under-some (Closing.Sold day net) o secret h = h

spent-moved : (p q : PledgeValue) (c : Command) (w x secret : ℕ) → IsSpent p secret → IsGated p x → Move p x w c q → IsSpent q secret
spent-moved p q c w x secret h g (Entering sort pence ok late few drawn is) = spent-kept p q _ secret h is refl refl
spent-moved p q c w x secret h g (Declaring paper ok is) =
    spent-declared p q x (record { day = x; sort = issue_of paper; secret = w }) secret h.issued g (ap (λ (v : PledgeValue). v.secrets) is)
    (ap (λ (v : PledgeValue). v.standing.closing) is) ok.1.1.0
spent-moved p q c w x secret h g (Settling s to is) =
    record {
      issued = ap (λ (v : PledgeValue). list_any (λ (i : Issued). i.secret == secret) v.secrets) is ∙ h.issued;
      not_live = λ k. h.not_live (ap (λ (o : Closing). live_under o (last_secret p.secrets)) g.standing
          ∙ live_under-some s.closing (last_secret p.secrets) secret (sym (ap live_of is) ∙ k));
    }
spent-moved p q c w x secret h g (Extending until inside longer few named is) = spent-kept p q _ secret h is refl refl

pub spent-changed : (p q : PledgeValue) (stamp : Stamp) (c : Command) (d : Done) (secret : ℕ) → IsSpent p secret → pledge_step p stamp c ≡ Changed q d
    → IsSpent q secret
spent-changed p q stamp c d secret h is =
    let g = pledge_moves p q stamp c d is in
    spent-moved p q c stamp.word stamp.day secret h g.0 g.1

spent-step : (p : PledgeValue) (stamp : Stamp) (c : Command) (secret : ℕ) → IsSpent p secret → (j : StepResult) → pledge_step p stamp c ≡ j
    → IsSpent (pledge_after p j) secret
spent-step p stamp c secret h (Refused why) is = h
spent-step p stamp c secret h (Answered done) is = h
spent-step p stamp c secret h (Changed q d) is = spent-changed p q stamp c d secret h is

pub never_live_again : NeverLiveAgain
never_live_again p [] secret spent = spent
never_live_again p (c ∷ cs) secret spent =
    never_live_again (pledge_after p (pledge_step p c.0 c.1)) cs secret (spent-step p c.0 c.1 secret spent (pledge_step p c.0 c.1) refl)

-- a declaration adds a new secret after those that were issued
spent-by-declaration : (p q : PledgeValue) (stamp : Stamp) (paper : Paper) (d : Done) (secret : ℕ)
    → list_any (λ (i : Issued). i.secret == secret) p.secrets ≡ true
    → unless (shared_refusals p stamp.day) (declare_step p stamp paper) ≡ Changed q d → IsSpent q secret
spent-by-declaration p q stamp paper d secret issued h =
    let new : Issued = record { day = stamp.day; sort = issue_of paper; secret = stamp.word } in
    let a = unless-changed (shared_refusals p stamp.day) (declare_step p stamp paper) q d h in
    let b = unless-changed (declare_refusals p paper stamp.word) (Changed (with_secret p new) (Done.Declared stamp.word)) q d a.1 in
    let is : q ≡ with_secret p new = changed-is (with_secret p new) q _ d b.1 in
    spent-declared p q stamp.day new secret issued (past-shared p stamp.day a.0)
    (ap (λ (v : PledgeValue). v.secrets) is) (ap (λ (v : PledgeValue). v.standing.closing) is) b.0.1.1.0

-- a redemption leaves none live
spent-by-redemption : (p q : PledgeValue) (stamp : Stamp) (paid : ℕ) (d : Done) (secret : ℕ) → list_any (λ (i : Issued). i.secret == secret) p.secrets ≡ true
    → unless (shared_refusals p stamp.day) (redeem_step p stamp.day paid) ≡ Changed q d → IsSpent q secret
spent-by-redemption p q stamp paid d secret issued h =
    let next : PledgeValue = close p stamp.day (Closing.Redeemed stamp.day paid) in
    let a = unless-changed (shared_refusals p stamp.day) (redeem_step p stamp.day paid) q d h in
    let b = unless-changed (redeem_refusals p stamp.day paid) (Changed next (Done.Redeemed stamp.day paid)) q d a.1 in
    let is : q ≡ next = changed-is next q _ d b.1 in
    record {
      issued = ap (λ (v : PledgeValue). list_any (λ (i : Issued). i.secret == secret) v.secrets) is ∙ issued;
      not_live = λ k. let none : None ≡ Some secret = sym (ap live_of is) ∙ k in cc;
    }

pub earlier_are_spent : EarlierAreSpent
earlier_are_spent p q stamp (Command.Declare paper) d secret replaces is issued = spent-by-declaration p q stamp paper d secret issued is
earlier_are_spent p q stamp (Command.Redeem paid) d secret replaces is issued = spent-by-redemption p q stamp paid d secret issued is
earlier_are_spent p q stamp (Command.Draw seq pence) d secret replaces is issued = absurd replaces
earlier_are_spent p q stamp (Command.Repay seq pence) d secret replaces is issued = absurd replaces
earlier_are_spent p q stamp Command.Hold d secret replaces is issued = absurd replaces
earlier_are_spent p q stamp Command.Release d secret replaces is issued = absurd replaces
earlier_are_spent p q stamp (Command.AskBooking day window) d secret replaces is issued = absurd replaces
earlier_are_spent p q stamp Command.CancelBooking d secret replaces is issued = absurd replaces
earlier_are_spent p q stamp (Command.DecideBooking decision) d secret replaces is issued = absurd replaces
earlier_are_spent p q stamp (Command.Sell net) d secret replaces is issued = absurd replaces
earlier_are_spent p q stamp (Command.Extend until) d secret replaces is issued = absurd replaces
