-- The limits of a pledge's record.
use Rattle.std.specs.Prelude.{ℕ}

-- the highest number of a book or a pledge
abbrev pub most_number : ℕ
most_number = 999999999

-- the most bytes of a broker's reference
abbrev pub most_reference_bytes : ℕ
most_reference_bytes = 40

-- the most bytes of the text of an article
abbrev pub most_article_bytes : ℕ
most_article_bytes = 80

-- the largest credit that is small, in pence: 75 pounds
abbrev pub small_credit : ℕ
small_credit = 7500

-- the number of days of grace, in which a pledge with the five days may still be redeemed after its end and not sold
abbrev pub grace_days : ℕ
grace_days = 5

-- the most secrets of a pledge: the first one, and 100 that are issued on declarations
abbrev pub most_secrets : ℕ
most_secrets = 101

-- the most extensions of a pledge
abbrev pub most_extensions : ℕ
most_extensions = 99

-- the last window of a day; windows are numbered from 0
abbrev pub last_window : ℕ
last_window = 15
