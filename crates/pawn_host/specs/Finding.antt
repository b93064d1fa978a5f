-- The results of the functions that a session uses to find the next request.
use Rattle.pawn_host.specs.Common.{Consumes, HeadFacts, IsAtEnd, IsHead, Keeps, ReadsHead, RequestHead, concat}
use Rattle.pawn_host.specs.Limits.{most_reads}
use Rattle.pawn_host.specs.Split.{IsCut, HasFault, HasNoWhole}
use Rattle.pawn_host.specs.declared.session.Cause.{Cause}
use Rattle.pawn_host.specs.declared.session.Cause.TheVariants.{Read, Reads, Write}
use Rattle.pawn_host.specs.declared.session.ReadMore.{ReadMore}
use Rattle.pawn_host.specs.declared.session.Rest.{Rest}
use Rattle.pawn_host.specs.declared.session.Rest.TheVariants.{AtEnd, CutOff, Faulty, NoMemory, Stopped}
use Rattle.std.specs.Prelude.{◌≡◌, ℕ, ◌+◌, ◌<◌, ◌≤◌, Bool, true, false, List, [], ◌∷◌, ◌++◌, length, Option, Result, Ok}
use Rattle.std.specs.Prelude.{Err, IfOk}

-- the effect of a read on the reader and the buffer
abbrev pub HasReadMore : ReadMore → Option (List ℕ) → Option (List ℕ) → List ℕ → List ℕ → Type 0
HasReadMore ReadMore.More a b old new = (piece : List ℕ) × (0 < length piece) × (new ≡ old ++ piece) × Consumes a b piece
HasReadMore ReadMore.Done a b old new = (new ≡ old) × Keeps a b × IsAtEnd b
HasReadMore ReadMore.Failed a b old new = Keeps a b
HasReadMore ReadMore.OutOfReads a b old new = Keeps a b
HasReadMore ReadMore.NoRoom a b old new = (piece : List ℕ) × Consumes a b piece

-- why there is no further request in the stream
abbrev pub FindsRest : List ℕ → Rest → Type 0
FindsRest s AtEnd = s ≡ []
FindsRest s CutOff = IsCut s
FindsRest s (Faulty f) = HasFault s f
FindsRest s NoMemory = Unit {0}
FindsRest s (Stopped cause) = Unit {0}

-- the stream begins with a request that has this head, or it is as `Rest` says
abbrev pub FindsHead : List ℕ → Result HeadFacts Rest → Type 0
FindsHead s (Ok f) = (h : RequestHead) × (rest : List ℕ) × ReadsHead s h rest × IsHead h f × (f.body ≤ length rest)
FindsHead s (Err rest) = FindsRest s rest

-- the buffer begins with a head of these facts
abbrev pub HasHead : List ℕ → HeadFacts → Type 0
HasHead buffer f = (h : RequestHead) × (rest : List ℕ) × ReadsHead buffer h rest × IsHead h f

-- the cause agrees with what is known of the reader and the writer
abbrev pub IsCausedBy : Cause → Bool → ℕ → Bool → Type 0
IsCausedBy Read read_failed reads write_failed = read_failed ≡ true
IsCausedBy Write read_failed reads write_failed = write_failed ≡ true
IsCausedBy Reads read_failed reads write_failed = reads ≡ most_reads

-- no read has failed in the meantime, unless the result is that the session stops
abbrev pub StopsBy : Result HeadFacts Rest → Bool → Bool → ℕ → Type 0
StopsBy (Ok head) was failed reads = failed ≡ was
StopsBy (Err AtEnd) was failed reads = failed ≡ was
StopsBy (Err CutOff) was failed reads = failed ≡ was
StopsBy (Err (Faulty f)) was failed reads = failed ≡ was
StopsBy (Err NoMemory) was failed reads = failed ≡ was
StopsBy (Err (Stopped cause)) was failed reads = IsCausedBy cause failed reads false

-- how many reads were made, and whether one failed
abbrev pub CountsReads : ReadMore → Bool → Bool → ℕ → ℕ → Type 0
CountsReads ReadMore.More was failed old new = (old < most_reads) × (new ≡ old + 1) × (failed ≡ was)
CountsReads ReadMore.Done was failed old new = (new ≡ old + 1) × (failed ≡ was)
CountsReads ReadMore.Failed was failed old new = (new ≡ old + 1) × (failed ≡ true)
CountsReads ReadMore.OutOfReads was failed old new = (new ≡ most_reads) × (new ≡ old)
CountsReads ReadMore.NoRoom was failed old new = (new ≡ old + 1) × (failed ≡ was)

-- each read returned a piece, and was made while the buffer did not begin with a whole request
abbrev pub AreMissing : List ℕ → List (List ℕ) → Type 0
AreMissing buffer [] = Unit {0}
AreMissing buffer (piece ∷ pieces) = HasNoWhole buffer × AreMissing (buffer ++ piece) pieces

-- the bytes that were read while something was searched for
pub record IsFetched (found : Result HeadFacts Rest) (buffer buffer' : List ℕ) (before after : Option (List ℕ)) (reads reads' : ℕ) : Type 0 where
  pub pieces : List (List ℕ)
  pub count : reads' ≡ reads + length pieces
  pub missing : AreMissing buffer pieces
  pub gave : Consumes before after (concat pieces)
  pub grown : IfOk found (λ head. buffer' ≡ buffer ++ concat pieces)
