use Rattle.csv.specs.Reading.{Ready}
use Rattle.pawn_csv.proofs.Basics.{◌≡◌, List, ℕ, Some, true}
use Rattle.pawn_csv.proofs.ReadLemmas.{SoFar}
use Rattle.pawn_csv.specs.Common.{default_config, source_of}
use Rattle.pawn_csv.specs.Order.{begun_of}
use Rattle.csv.specs.declared.reader.Trim.TheVariants as trim
use Rattle.pawn_csv.proofs.book_reading.take_records.Given as goal

abbrev pub invariant-loop-index : goal.invariant-loop-index
invariant-loop-index g l = record {
  trim : l.csv_reader.trim ≡ trim.None;
  ready : Ready l.csv_reader;
  config : l.csv_reader.config ≡ default_config;
  flexible : l.csv_reader.flexible ≡ true;
  so_far : (text : List ℕ) → source_of g.R.Read.remaining l.fn.csv_reader ≡ Some text → SoFar g.R.Read.remaining text l.csv_reader l.index (begun_of l.raw);
}
