-- When a column is read as a value.
use Rattle.pawn_base.specs.Text.{IsText}
use Rattle.pawn_csv.specs.Columns.{kind_text, text_if_any, yes_text}
use Rattle.pawn_csv.specs.Common.{IsOpening, IsUtf8, Opening, credit_of}
use Rattle.pawn_csv.specs.Rows.{IsColumnNumber}
use Rattle.pawn_terms.specs.Calendar.{IsRequestDay, day_text}
use Rattle.std.specs.Borrow.{Bor}
use Rattle.std.specs.Prelude.{◌≡◌, ℕ, List, [], map, Option, None, Some, IfSome, decimal, get_or}

-- the result of reading a column: the value that is spelled like this and satisfies its rule, or `None` if there is no
-- such value
abbrev pub ReadsAs : {A B : Type 0} → (A → B) → (A → Type 0) → B → Option A → Type 0
ReadsAs text Keeps spelled (Some x) = Keeps x × (spelled ≡ text x)
ReadsAs text Keeps spelled None = (x : _) → Keeps x → spelled ≡ text x → ⊥

-- the column at a place, counted from 0; empty after the last
abbrev pub column_at : List (List ℕ) → ℕ → List ℕ
column_at fields place = get_or fields place []

-- the texts of columns that the program has as borrowed bytes
abbrev pub texts_of : List (Bor (List ℕ)) → List (List ℕ)
texts_of columns = map (λ column. column.now) columns

-- a text of 1 to `most` bytes, in UTF-8
abbrev pub IsTextColumn : ℕ → List ℕ → Type 0
IsTextColumn most text = IsText most text × IsUtf8 text

abbrev pub IsColumnNumberIfAny : Option ℕ → Type 0
IsColumnNumberIfAny number = IfSome number IsColumnNumber

abbrev pub IsRequestDayIfAny : Option ℕ → Type 0
IsRequestDayIfAny day = IfSome day IsRequestDay

-- the columns of an opening in a pledge's own row, each by its rule
pub record IsOpeningOf (fields : List (List ℕ)) (o : Opening) : Type 0 where
  pub opening : IsOpening o
  pub utf8 : IsUtf8 o.reference × IsUtf8 o.article
  pub credit : IsColumnNumber (credit_of o.kind)
  pub reference_is : column_at fields 2 ≡ o.reference
  pub article_is : column_at fields 3 ≡ o.article
  pub kind_is : column_at fields 4 ≡ kind_text o.kind
  pub amount_is : column_at fields 5 ≡ decimal (credit_of o.kind)
  pub agreed_is : column_at fields 7 ≡ text_if_any day_text o.agreed
  pub five_days_is : column_at fields 8 ≡ yes_text o.five_days
