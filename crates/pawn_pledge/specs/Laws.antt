-- Laws of pledges: properties of every pledge, whatever commands are sent.
use Rattle.pawn_pledge.specs.Brief.{brief_of, brief_status, brief_owing, IsBriefWithin}
use Rattle.pawn_pledge.specs.Commands.{IsCommand}
use Rattle.pawn_pledge.specs.Common.{Draw, IsChecked, IsRequestDay, NoneApplies, Rates, Repay, Sort, due, last_of}
use Rattle.pawn_pledge.specs.Common.{owing_of}
use Rattle.pawn_pledge.specs.Growth.{Grows, StaysOrGrows}
use Rattle.pawn_pledge.specs.Number.{IsNumber}
use Rattle.pawn_pledge.specs.Pledge.{PledgeValue, end_of, debt_of, status_of, live_of}
use Rattle.pawn_pledge.specs.Receipt.{receipt_text, IsReceiptText}
use Rattle.pawn_pledge.specs.Replayable.{IsOpening, IsReplayable, IsWithinLimits, IsReachable}
use Rattle.pawn_pledge.specs.Secret.{secret_text, secret_of_text}
use Rattle.pawn_pledge.specs.Step.{Answered, Changed, shared_refusals, pledge_step, pledge_after, pledge_start}
use Rattle.pawn_pledge.specs.Words.{is_open}
use Rattle.pawn_pledge.specs.declared.command.Command.{Command}
use Rattle.pawn_pledge.specs.declared.command.Done.{Done}
use Rattle.pawn_pledge.specs.declared.command.Stamp.{Stamp}
use Rattle.pawn_pledge.specs.declared.receipt.Receipt.{Receipt}
use Rattle.pawn_pledge.specs.declared.record.Opening.{Opening}
use Rattle.std.specs.List.{list_any}
use Rattle.std.specs.Prelude.{◌≡◌, ◌≤◌, ◌<◌, ◌+◌, ◌^◌, ◌==◌, ℕ, length, true, false, List, [], ◌∷◌, Some, Ok}

-- a new pledge is reachable and within the limits
abbrev pub StartsReachable : Type 0
StartsReachable =
    (number : ℕ) (opening : Opening) (version : ℕ) (terms : Rates) (stamp : Stamp) (p : PledgeValue)
    → IsNumber number → IsOpening opening → IsChecked terms → IsRequestDay stamp.day
    → pledge_start number opening version terms stamp ≡ Ok p → IsReachable p

-- a reachable pledge is reachable after a change
abbrev pub StaysReplayable : Type 0
StaysReplayable =
    (p next : PledgeValue) (stamp : Stamp) (command : Command) (done : Done)
    → IsReplayable p → pledge_step p stamp command ≡ Changed next done → IsReplayable next

-- a pledge within the limits is within them after a change
abbrev pub StaysWithin : Type 0
StaysWithin =
    (p next : PledgeValue) (stamp : Stamp) (command : Command) (done : Done)
    → IsRequestDay stamp.day → IsCommand command → IsWithinLimits p → pledge_step p stamp command ≡ Changed next done → IsWithinLimits next

-- a reachable pledge within the limits is so after a change
abbrev pub StaysReachable : Type 0
StaysReachable =
    (p next : PledgeValue) (stamp : Stamp) (command : Command) (done : Done)
    → IsRequestDay stamp.day → IsCommand command → IsReachable p → pledge_step p stamp command ≡ Changed next done → IsReachable next

-- a change keeps the agreement
abbrev pub AgreementStays : Type 0
AgreementStays =
    (p next : PledgeValue) (stamp : Stamp) (command : Command) (done : Done)
    → pledge_step p stamp command ≡ Changed next done → next.agreement ≡ p.agreement

-- a pledge differs after a change
abbrev pub ChangesDiffer : Type 0
ChangesDiffer =
    (p next : PledgeValue) (stamp : Stamp) (command : Command) (done : Done)
    → pledge_step p stamp command ≡ Changed next done → next ≡ p → ⊥

-- no command changes a pledge that is redeemed or sold
abbrev pub ClosedStays : Type 0
ClosedStays =
    (p next : PledgeValue) (stamp : Stamp) (command : Command) (done : Done)
    → is_open p.standing.closing ≡ false → pledge_step p stamp command ≡ Changed next done → ⊥

-- the list of secrets stays the same, or grows at its end by the stamp's word, which was not in it
abbrev pub SecretsGrow : Type 0
SecretsGrow =
    (p next : PledgeValue) (stamp : Stamp) (command : Command) (done : Done)
    → pledge_step p stamp command ≡ Changed next done
    → StaysOrGrows (λ issued. (issued.secret ≡ stamp.word) × (list_any (λ i. i.secret == stamp.word) p.secrets ≡ false)) p.secrets next.secrets

-- the entries stay the same, or grow at their end by the next entry, on the stamp's day
abbrev pub EntriesGrow : Type 0
EntriesGrow =
    (p next : PledgeValue) (stamp : Stamp) (command : Command) (done : Done)
    → pledge_step p stamp command ≡ Changed next done
    → StaysOrGrows (λ entry. (entry.seq ≡ length p.entries + 1) × (entry.day ≡ stamp.day)) p.entries next.entries

-- the extensions stay the same, or grow at their end by one to a later end of the period, on the stamp's day
abbrev pub ExtensionsGrow : Type 0
ExtensionsGrow =
    (p next : PledgeValue) (stamp : Stamp) (command : Command) (done : Done)
    → pledge_step p stamp command ≡ Changed next done
    → StaysOrGrows (λ extension. (extension.day ≡ stamp.day) × (end_of p < extension.until)) p.extensions next.extensions

-- the pledge after a list of commands, each with its stamp
abbrev pub pledge_after_all : PledgeValue → List (Stamp × Command) → PledgeValue
pledge_after_all p [] = p
pledge_after_all p (c ∷ cs) = pledge_after_all (pledge_after p (pledge_step p c.0 c.1)) cs

-- commands change each list only by adding at its end
abbrev pub ListsGrow : Type 0
ListsGrow = (p : PledgeValue) (commands : List (Stamp × Command)) → Grows p (pledge_after_all p commands)

-- the command for a drawing or a repayment
abbrev pub entry_command : Sort → ℕ → ℕ → Command
entry_command Draw seq pence = Command.Draw seq pence
entry_command Repay seq pence = Command.Repay seq pence

-- a drawing or a repayment that was entered gets the same answer when it is sent again, and enters nothing, whatever
-- commands came in between, on any day and with any word
abbrev pub EntriesActOnce : Type 0
EntriesActOnce =
    (p next : PledgeValue) (stamp again : Stamp) (sort : Sort) (seq pence : ℕ) (done : Done) (later : List (Stamp × Command))
    → IsReplayable p → pledge_step p stamp (entry_command sort seq pence) ≡ Changed next done
    → pledge_step (pledge_after_all next later) again (entry_command sort seq pence) ≡ Answered done

-- none of the refusals that all commands share applies on the day x, and the period is not over
abbrev pub MayExtend : PledgeValue → ℕ → Type 0
MayExtend p x = NoneApplies (shared_refusals p x) × (x ≤ end_of p)

-- an extension to the present end is answered with that end and changes nothing, if the pledge may be extended
abbrev pub SameEndIsAnswered : Type 0
SameEndIsAnswered =
    (p : PledgeValue) (stamp : Stamp)
    → MayExtend p stamp.day → pledge_step p stamp (Command.Extend (end_of p)) ≡ Answered (Done.Extended (end_of p))

-- An extension that was agreed gets the same answer when it is sent again, and changes nothing, whatever commands came
-- in between. Its end must still be the present one, and the pledge must be one that may be extended.
abbrev pub ExtensionsActOnce : Type 0
ExtensionsActOnce =
    (p next : PledgeValue) (stamp again : Stamp) (until : ℕ) (done : Done) (later : List (Stamp × Command))
    → pledge_step p stamp (Command.Extend until) ≡ Changed next done
    → end_of (pledge_after_all next later) ≡ until → MayExtend (pledge_after_all next later) again.day
    → pledge_step (pledge_after_all next later) again (Command.Extend until) ≡ Answered done

-- after any list of commands at most one receipt of a pledge is live
abbrev pub OneIsLive : Type 0
OneIsLive =
    (p : PledgeValue) (commands : List (Stamp × Command)) (one other : ℕ)
    → live_of (pledge_after_all p commands) ≡ Some one → live_of (pledge_after_all p commands) ≡ Some other → one ≡ other

-- a secret that was issued and is not live: a declaration replaced it, or it was surrendered on redemption
pub record IsSpent (p : PledgeValue) (secret : ℕ) : Type 0 where
  pub issued : list_any (λ i. i.secret == secret) p.secrets ≡ true
  pub not_live : live_of p ≡ Some secret → ⊥

-- a spent secret is never live again
abbrev pub NeverLiveAgain : Type 0
NeverLiveAgain = (p : PledgeValue) (commands : List (Stamp × Command)) (secret : ℕ) → IsSpent p secret → IsSpent (pledge_after_all p commands) secret

-- a declaration or a redemption
abbrev pub IsReplacing : Command → Type 0
IsReplacing (Command.Draw seq pence) = ⊥
IsReplacing (Command.Repay seq pence) = ⊥
IsReplacing Command.Hold = ⊥
IsReplacing Command.Release = ⊥
IsReplacing (Command.Declare paper) = Unit {0}
IsReplacing (Command.AskBooking day window) = ⊥
IsReplacing Command.CancelBooking = ⊥
IsReplacing (Command.DecideBooking decision) = ⊥
IsReplacing (Command.Redeem paid) = Unit {0}
IsReplacing (Command.Sell net) = ⊥
IsReplacing (Command.Extend until) = ⊥

-- a declaration or a redemption spends each secret that was issued before it
abbrev pub EarlierAreSpent : Type 0
EarlierAreSpent =
    (p next : PledgeValue) (stamp : Stamp) (command : Command) (done : Done) (secret : ℕ)
    → IsReplacing command → pledge_step p stamp command ≡ Changed next done → list_any (λ i. i.secret == secret) p.secrets ≡ true → IsSpent next secret

-- a brief shows the sum owed on its pledge
abbrev pub BriefOwes : Type 0
BriefOwes =
    (p : PledgeValue) (x : ℕ)
    → IsReplayable p → last_of p.agreement.taken p.entries ≤ x → brief_owing (brief_of p) x ≡ owing_of (due (debt_of p) x)

-- a brief shows the status of its pledge on a day
abbrev pub BriefHasStatus : Type 0
BriefHasStatus = (p : PledgeValue) (x : ℕ) → brief_status (brief_of p) x ≡ status_of p x

-- a brief is within the limits, if its pledge is reachable and within the limits
abbrev pub BriefIsWithin : Type 0
BriefIsWithin = (p : PledgeValue) → IsReachable p → IsBriefWithin (brief_of p)

-- a secret's text reads as the secret
abbrev pub SecretTextsReadBack : Type 0
SecretTextsReadBack = (word : ℕ) → word < 2 ^ 128 → secret_of_text (secret_text word) ≡ Some word

-- a receipt's text reads as the receipt
abbrev pub ReceiptTextsReadBack : Type 0
ReceiptTextsReadBack = (r : Receipt) → IsNumber r.number → r.secret < 2 ^ 128 → IsReceiptText (receipt_text r) r

-- no text reads as two receipts
abbrev pub ReceiptTextsAreOne : Type 0
ReceiptTextsAreOne = (text : List ℕ) (one other : Receipt) → IsReceiptText text one → IsReceiptText text other → one ≡ other
