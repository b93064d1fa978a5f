-- Pages: the rows of a long list that one query returns.
use Rattle.pawn_pledge.specs.Pledge.{last_element}
use Rattle.std.specs.Prelude.{ℕ, ◌≡◌, ◌≤◌, ◌<◌, ◌++◌, List, [], length, map, option_map, unwrap_or}

-- the largest number of rows of a page
abbrev pub most_page_rows : ℕ
most_page_rows = 64

-- the place at which a page ends: after its last element, or where it began if it is empty
abbrev pub page_end : {A : Type 0} → (A → ℕ) → ℕ → List A → ℕ
page_end behind n page = unwrap_or (option_map behind (last_element page)) n

-- A page of a list that begins at place n. `left` is the rest of the list from a place on. The page has the first
-- elements of that rest, and the next page begins where this one ends. A page that is not full is the last.
pub record IsPage {A B : Type 0} (left : ℕ → List B) (shows : A → B) (behind : A → ℕ) (n : ℕ) (page : List A) : Type 0 where
  pub few : length page ≤ most_page_rows
  pub goes_on : left n ≡ map shows page ++ left (page_end behind n page)
  pub is_last : length page < most_page_rows → left (page_end behind n page) ≡ []
