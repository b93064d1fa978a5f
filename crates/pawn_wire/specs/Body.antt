-- The content of the JSON bodies of requests.
use Rattle.pawn_book.specs.declared.request.NewTerms.{NewTerms}
use Rattle.pawn_debt.specs.declared.entry.Kind.{Kind}
use Rattle.pawn_wire.specs.Chain.{and_then}
use Rattle.pawn_wire.specs.Common.{Data, Fixed, MOST_ARTICLE_BYTES, MOST_BOOKINGS, MOST_NAME_BYTES}
use Rattle.pawn_wire.specs.Common.{MOST_REFERENCE_BYTES, NewBook, Opening, Running}
use Rattle.pawn_wire.specs.Member.{in_range, number_at, string_at, flag_at, text_at, key_at}
use Rattle.pawn_wire.specs.Named.{day_said}
use Rattle.serde_json.specs.Find.{as_null, as_str, get}
use Rattle.std.specs.Prelude.{ℕ, List, codes, bytes_eq, if◌then◌else◌, Option, Some, None, is_some, option_map}

-- a new book: its capacity, its key and its name
abbrev pub new_book_of : Data → Option NewBook
new_book_of d =
    and_then (and_then (number_at (codes "capacity") d) (in_range 1 MOST_BOOKINGS))
    (λ capacity. and_then (key_at (codes "key") d)
    (λ key. and_then (text_at MOST_NAME_BYTES (codes "name") d)
    (λ name. Some (record { key = key; name = name; capacity = capacity }))))

-- new terms with their version
abbrev pub new_terms_of : Data → Option NewTerms
new_terms_of d =
    and_then (number_at (codes "keep_after") d)
    (λ keep_after. and_then (number_at (codes "keep_before") d)
    (λ keep_before. and_then (number_at (codes "rate") d)
    (λ rate. and_then (number_at (codes "version") d)
    (λ version. Some (record { version = version; rates = record { rate = rate; keep_before = keep_before; keep_after = keep_after } })))))

-- the kind of a pledge by its name: fixed with its sum, or running with its limit, in pence
abbrev pub kind_named : List ℕ → ℕ → Option Kind
kind_named word pence =
    if bytes_eq word (codes "fixed") then Some (Fixed pence)
    else if bytes_eq word (codes "running") then Some (Running pence)
    else None

abbrev pub kind_of : Data → Option Kind
kind_of d =
    and_then (string_at (codes "kind") d)
    (λ word. and_then (number_at (codes "pence") d)
    (λ pence. kind_named word pence))

-- the day in a member that may be null
abbrev pub day_or_null : Data → Option (Option ℕ)
day_or_null member = if is_some (as_null member) then Some None else option_map Some (and_then (as_str member) day_said)

-- the day in a member that may be missing or null
abbrev pub day_if_any : Option Data → Option (Option ℕ)
day_if_any None = Some None
day_if_any (Some member) = day_or_null member

abbrev pub optional_day_at : List ℕ → Data → Option (Option ℕ)
optional_day_at name d = day_if_any (get name d)

-- a pledge to be taken
abbrev pub opening_of : Data → Option Opening
opening_of d =
    and_then (optional_day_at (codes "agreed") d)
    (λ agreed. and_then (text_at MOST_ARTICLE_BYTES (codes "article") d)
    (λ article. and_then (flag_at (codes "five_days") d)
    (λ five_days. and_then (kind_of d)
    (λ kind. and_then (text_at MOST_REFERENCE_BYTES (codes "ref") d)
    (λ reference. Some (record { reference = reference; article = article; kind = kind; agreed = agreed; five_days = five_days }))))))
