-- One column.
use Rattle.pawn_csv.proofs.Basics.{◌≡◌, ◌∙◌, ◌^◌, ◌<◌, ℕ, zero, suc, List, [], ◌∷◌, None, Some, refl, ap, get_or}
use Rattle.pawn_csv.proofs.Basics.{secret_texts_read_back}
use Rattle.pawn_csv.specs.Common.{field_at, secret_of_text, secret_text}

-- the text of a secret is read as that secret
pub secret_is : (field : List ℕ) (word : ℕ) → word < 2 ^ 128 → field ≡ secret_text word → secret_of_text field ≡ Some word
secret_is field word small is = ap secret_of_text is ∙ secret_texts_read_back word small

pub no_secret : (field : List ℕ) (word : ℕ) → None ≡ secret_of_text field → word < 2 ^ 128 → field ≡ secret_text word → ⊥
no_secret field word none small is = let e = none ∙ secret_is field word small is in cc

pub same_secret : (field : List ℕ) (word other : ℕ) → Some other ≡ secret_of_text field → word < 2 ^ 128 → field ≡ secret_text word → other ≡ word
same_secret field word other some small is = let e = some ∙ secret_is field word small is in cc

-- the column of a record, and of its list
pub column_is : (fs : List (List ℕ)) (place : ℕ) (field : List ℕ) → Some field ≡ field_at fs place → field ≡ get_or fs place []
unfolding field_at
column_is [] place field is = cc
column_is (f ∷ fs) zero field is = cc
column_is (f ∷ fs) (suc place) field is = column_is fs place field is

pub no_column : (fs : List (List ℕ)) (place : ℕ) → None ≡ field_at fs place → [] ≡ get_or fs place []
unfolding field_at
no_column [] place is = refl
no_column (f ∷ fs) zero is = cc
no_column (f ∷ fs) (suc place) is = no_column fs place is
