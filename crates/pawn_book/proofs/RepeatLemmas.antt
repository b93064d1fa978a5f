-- Repeated requests get the same answer, for every caller that has access.
use Rattle.pawn_book.proofs.LawLemmas.{live_found, numbered_in, stands_after}
use Rattle.pawn_book.proofs.MadeLemmas.{DidOn, if_makes, number_made, receipt_made}
use Rattle.pawn_book.proofs.Sounds.{some_is}
use Rattle.pawn_book.specs.BookStep.{BookValue, Makes, Refuses, Says, Replied, bearer_commands, book_step}
use Rattle.pawn_book.specs.BookStep.{broker_commands, changed_book, outcome_of_step, live_at, only_live, pledge_from}
use Rattle.pawn_book.specs.BookStep.{pledge_in, within_window}
use Rattle.pawn_book.specs.Books.{Bearer, Broker, Caller, Change, Commanded, Import, NoSuchBook, OnPledge, OnReceipt}
use Rattle.pawn_book.specs.Books.{Operator, Present, PutTerms, Reply, Viewer, TakePledge}
use Rattle.pawn_book.specs.Common.{Answered, Command, Done, PledgeValue, Stamp, end_of, entry_command, pledge_step}
use Rattle.pawn_book.specs.Laws.{Asks, BookEntriesActOnce, BookExtensionsActOnce, EntriesActOnceForAll, Passes}
use Rattle.pawn_book.specs.Laws.{SameEndIsReplied, StillPasses, book_run}
use Rattle.pawn_pledge.proofs.Repeats.{entered_again, extended-made, same_end_is_answered}
use Rattle.std.proofs.Common.{◌≡◌, ℕ, List, Some, refl, ◌∙◌, ap, sym, subst, arith, if◌then◌else◌, is_some, Option}
use Rattle.std.proofs.Common.{◌==◌, true}
use Rattle.std.proofs.lemmas.Bool.Decides.{nat_tests}

-- a command that made a change
pub did_on : (book : BookValue) (operator b : ℕ) (stamp : Stamp) (caller : Caller) (n : ℕ) (command : Command) (change : Change) (reply : Reply)
    → Asks caller n command → book_step (Some book) operator b stamp caller ≡ Makes change reply → DidOn book b n stamp command change reply
did_on book operator b stamp (Operator key new) n command change reply asks is = absurd asks
did_on book operator b stamp (Broker key (PutTerms new)) n command change reply asks is = absurd asks
did_on book operator b stamp (Broker key (TakePledge opening)) n command change reply asks is = absurd asks
did_on book operator b stamp (Broker key (Import import_key rows)) n command change reply asks is = absurd asks
did_on book operator b stamp (Viewer key view) n command change reply asks is = absurd asks
did_on book operator b stamp (Broker key (OnPledge m own)) n command change reply asks is =
    let passed = if_makes (book.key == key) _ _ change reply is in
    let did = number_made book b m stamp own (pledge_from 1 book.pledges m) change reply refl passed.1 in
    subst (λ (c : Command). DidOn book b n stamp c change reply) asks.1 (subst (λ (k : ℕ). DidOn book b k stamp own change reply) asks.0 did)
did_on book operator b stamp (Bearer (Present receipts)) n command change reply asks is = absurd asks
did_on book operator b stamp (Bearer (OnReceipt r own)) n command change reply asks is =
    let did = receipt_made book b r stamp own (live_at (pledge_in (Some book)) r) change reply refl is in
    subst (λ (c : Command). DidOn book b n stamp c change reply) asks.1 (subst (λ (k : ℕ). DidOn book b k stamp own change reply) asks.0 did)

-- an answer of a pledge without a change is given to every caller that has access
told_to : (book : BookValue) (operator b : ℕ) (stamp : Stamp) (caller : Caller) (n : ℕ) (command : Command) (p : PledgeValue) (done : Done)
    → Asks caller n command → Passes (Some book) caller → pledge_from 1 book.pledges n ≡ Some p → pledge_step p stamp command ≡ Answered done
    → book_step (Some book) operator b stamp caller ≡ Says (Replied (Commanded n done))
told_to book operator b stamp (Operator key new) n command p done asks passes at step = absurd asks
told_to book operator b stamp (Broker key (PutTerms new)) n command p done asks passes at step = absurd asks
told_to book operator b stamp (Broker key (TakePledge opening)) n command p done asks passes at step = absurd asks
told_to book operator b stamp (Broker key (Import import_key rows)) n command p done asks passes at step = absurd asks
told_to book operator b stamp (Viewer key view) n command p done asks passes at step = absurd asks
told_to book operator b stamp (Broker key (OnPledge m own)) n command p done asks passes at step =
    let holds : book.key ≡ key = ap (λ (k : BookValue). k.key) (some_is book passes.0 passes.1) ∙ passes.2 in
    let opens : (book.key == key) ≡ true = grind (arith, nat_tests, holds) in
    ap (λ v. if v then broker_commands book b m stamp own (pledge_from 1 book.pledges m) else Refuses NoSuchBook) opens
    ∙ ap (broker_commands book b m stamp own) (ap (pledge_from 1 book.pledges) asks.0 ∙ at)
    ∙ ap (λ j. within_window book (outcome_of_step b m j)) (ap (pledge_step p stamp) asks.1 ∙ step) ∙ ap (λ (k : ℕ). Says (Replied (Commanded k done))) asks.0
told_to book operator b stamp (Bearer (Present receipts)) n command p done asks passes at step = absurd asks
told_to book operator b stamp (Bearer (OnReceipt r own)) n command p done asks passes at step =
    let here : pledge_from 1 book.pledges r.number ≡ Some p = ap (pledge_from 1 book.pledges) asks.0 ∙ at in
    let live : is_some (only_live r.secret (Some p)) ≡ true = ap (λ o. is_some (only_live r.secret o)) (sym here) ∙ passes in
    ap (λ o. bearer_commands b r.number stamp own (only_live r.secret o)) here ∙ ap (bearer_commands b r.number stamp own) (live_found r.secret p live)
    ∙ ap (outcome_of_step b r.number) (ap (pledge_step p stamp) asks.1 ∙ step) ∙ ap (λ (k : ℕ). Says (Replied (Commanded k done))) asks.0

-- a repeated entry is answered again
pub entry_told_to_all : EntriesActOnceForAll
entry_told_to_all before operator b stamp again caller other n sort seq pence change reply later sound asks asks' is passes =
    let did = did_on before operator b stamp caller n (entry_command sort seq pence) change reply asks is in
    let stands = stands_after before operator b n stamp (entry_command sort seq pence) change reply later did in
    let q = stands.3.0 in
    let told = entered_again did.old did.next q stamp again sort seq pence did.done (numbered_in before n did.old sound did.stands) did.step stands.3.2.lists in
    ap (λ o. book_step o operator b again other) stands.1 ∙ told_to stands.0 operator b again other n (entry_command sort seq pence) q did.done asks'
    (subst (λ (o : Option BookValue). Passes o other) stands.1 passes) stands.3.1 told ∙ ap (λ r. Says (Replied r)) (sym did.says)

-- the caller still has access: the broker by the key, and a bearer while the receipt is live
still_passes : (before : BookValue) (operator b : ℕ) (stamp : Stamp) (caller : Caller) (n : ℕ) (command : Command) (change : Change) (reply : Reply)
    (later : List (Stamp × Caller)) → Asks caller n command → book_step (Some before) operator b stamp caller ≡ Makes change reply → StillPasses
    (book_run (changed_book (Some before) change) operator b later) caller → Passes (book_run (changed_book (Some before) change) operator b later) caller
still_passes before operator b stamp (Operator key new) n command change reply later asks is passes = absurd asks
still_passes before operator b stamp (Broker key request) n command change reply later asks is passes =
    let did = did_on before operator b stamp (Broker key request) n command change reply asks is in
    let stands = stands_after before operator b n stamp command change reply later did in
    let test = (if_makes (before.key == key) _ _ change reply is).0 in
    let same = stands.2 in
    (stands.0, stands.1, grind (arith, nat_tests, test, same))
still_passes before operator b stamp (Viewer key view) n command change reply later asks is passes = absurd asks
still_passes before operator b stamp (Bearer request) n command change reply later asks is passes = passes

pub entry_told : BookEntriesActOnce
entry_told before operator b stamp again caller n sort seq pence change reply later sound asks is passes =
    entry_told_to_all before operator b stamp again caller caller n sort seq pence change reply later sound asks asks is
    (still_passes before operator b stamp caller n (entry_command sort seq pence) change reply later asks is passes)

pub same_end_is_replied : SameEndIsReplied
same_end_is_replied book operator b n stamp p at may =
    told_to book operator b stamp (Broker book.key (OnPledge n (Command.Extend (end_of p)))) n (Command.Extend (end_of p)) p (Done.Extended (end_of p))
    (refl, refl) (book, refl, refl) at (same_end_is_answered p stamp may)

-- a repeated extension is answered again
pub extension_told : BookExtensionsActOnce
extension_told before operator b key n until stamp again change reply later p is at ends may =
    let did = did_on before operator b stamp (Broker key (OnPledge n (Command.Extend until))) n (Command.Extend until) change reply (refl, refl) is in
    let passed = if_makes (before.key == key) _ _ change reply is in
    let stands = stands_after before operator b n stamp (Command.Extend until) change reply later did in
    let after = stands.0 in
    let holds : after.key ≡ key = let test = passed.0 in let same = stands.2 in grind (arith, nat_tests, test, same) in
    let there : pledge_from 1 after.pledges n ≡ Some p = ap (λ o. pledge_in o n) (sym stands.1) ∙ at in
    let told = same_end_is_answered p again may in
    ap (λ o. book_step o operator b again (Broker key (OnPledge n (Command.Extend until)))) stands.1 ∙ told_to after operator b again
    (Broker key (OnPledge n (Command.Extend until))) n (Command.Extend until) p (Done.Extended until) (refl, refl) (after, refl, holds) there
    (ap (λ (e : ℕ). pledge_step p again (Command.Extend e)) (sym ends) ∙ told ∙ ap (λ (e : ℕ). Answered (Done.Extended e)) ends) ∙ ap (λ (d : Done). Says
    (Replied (Commanded n d))) (sym (extended-made did.old did.next stamp until did.done did.step)) ∙ ap (λ r. Says (Replied r)) (sym did.says)
