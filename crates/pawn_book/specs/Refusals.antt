-- The reasons why a request is refused.
use Rattle.pawn_book.specs.declared.refusal.Refusal.{Refusal}
use Rattle.pawn_book.specs.declared.refusal.Refusal.TheVariants.{Pledge, Terms, NoSuchBook, NoSuchReceipt, NoSuchPledge}
use Rattle.pawn_book.specs.declared.refusal.Refusal.TheVariants.{BookTaken, NoTerms, TermsSeq, RefTaken, WindowFull}
use Rattle.pawn_book.specs.declared.refusal.Refusal.TheVariants.{BookNotEmpty, NotOperator, TermsFull, PledgesFull}
use Rattle.pawn_book.specs.declared.refusal.Refusal.TheVariants.{Full, Memory, Store}
use Rattle.std.specs.Prelude.{ℕ, List, Option, None, codes}
use Rattle.pawn_terms.specs.TermsFault as terms
use Rattle.pawn_pledge.specs.Refusal as pledge

-- the code of the refusal in replies
abbrev pub book_refusal_code : Refusal → ℕ
book_refusal_code (Pledge refusal) = pledge.pledge_refusal_code refusal
book_refusal_code (Terms fault) = terms.terms_fault_code fault
book_refusal_code NoSuchBook = 401
book_refusal_code NoSuchReceipt = 402
book_refusal_code NoSuchPledge = 403
book_refusal_code BookTaken = 404
book_refusal_code NoTerms = 405
book_refusal_code TermsSeq = 406
book_refusal_code RefTaken = 407
book_refusal_code WindowFull = 408
book_refusal_code BookNotEmpty = 409
book_refusal_code NotOperator = 410
book_refusal_code TermsFull = 411
book_refusal_code PledgesFull = 412
book_refusal_code Full = 490
book_refusal_code Memory = 491
book_refusal_code Store = 492

-- the name of the refusal in replies
abbrev pub book_refusal_name : Refusal → List ℕ
book_refusal_name (Pledge refusal) = pledge.pledge_refusal_name refusal
book_refusal_name (Terms fault) = terms.terms_fault_name fault
book_refusal_name NoSuchBook = codes "NoSuchBook"
book_refusal_name NoSuchReceipt = codes "NoSuchReceipt"
book_refusal_name NoSuchPledge = codes "NoSuchPledge"
book_refusal_name BookTaken = codes "BookTaken"
book_refusal_name NoTerms = codes "NoTerms"
book_refusal_name TermsSeq = codes "TermsSeq"
book_refusal_name RefTaken = codes "RefTaken"
book_refusal_name WindowFull = codes "WindowFull"
book_refusal_name BookNotEmpty = codes "BookNotEmpty"
book_refusal_name NotOperator = codes "NotOperator"
book_refusal_name TermsFull = codes "TermsFull"
book_refusal_name PledgesFull = codes "PledgesFull"
book_refusal_name Full = codes "Full"
book_refusal_name Memory = codes "Memory"
book_refusal_name Store = codes "Store"

-- the sum owed, if the refusal reports it
abbrev pub reported_total : Refusal → Option ℕ
reported_total (Pledge refusal) = pledge.refusal_total refusal
reported_total (Terms fault) = None
reported_total NoSuchBook = None
reported_total NoSuchReceipt = None
reported_total NoSuchPledge = None
reported_total BookTaken = None
reported_total NoTerms = None
reported_total TermsSeq = None
reported_total RefTaken = None
reported_total WindowFull = None
reported_total BookNotEmpty = None
reported_total NotOperator = None
reported_total TermsFull = None
reported_total PledgesFull = None
reported_total Full = None
reported_total Memory = None
reported_total Store = None
