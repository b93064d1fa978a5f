use Rattle.pawn_base.proofs.ListLemmas.{no_elements}
use Rattle.pawn_book.specs.BookStep.{BookValue, Makes, Outcome, Refuses, Says, book_step, changed_book, out_of}
use Rattle.pawn_book.specs.Books.{Full, Request}
use Rattle.pawn_book.specs.Common.{Stamp}
use Rattle.pawn_book.specs.HostStep.{Host, book_row_count, host_after, host_step, with_book, within_limit}
use Rattle.pawn_book.specs.Runs.{Said, Answered}
use Rattle.pawn_book.specs.Shards.{handed}
use Rattle.pawn_book.specs.WorkedShards.{a_ring, asked, book_of, first_shard, of_seven, one_host, second_shard, shard}
use Rattle.pawn_book.specs.WorkedShards.{replies_of_run}
use Rattle.pawn_debt.specs.Due.{due_after}
use Rattle.pawn_terms.specs.Calendar.{civil_after, days_of_months, days_of_years}
use Rattle.std.proofs.Common.{◌≡◌, ℕ, List, [], ◌∷◌, map, sum_by, refl, sym, ap, ◌∙◌, if◌then◌else◌, Option, None, Some}
use Rattle.std.proofs.Common.{nat_lt}
use Rattle.std.proofs.lemmas.Cmp.{nat_cmp_total}
use Rattle.std.specs.FinMap.{FinMap, empty, entries, entries-insert, find, get, get-entries, insert, len-empty}
use Rattle.std.specs.FinMap.{len-entries, put}
use Rattle.std.specs.Ordering.{nat_cmp}
use Rattle.pawn_book.proofs.worked.worked_shards.Goals as goal

-- the books of a host as a list
abbrev Books : Type 0
Books = List (ℕ × BookValue)

abbrev found : Books → ℕ → Option BookValue
found es b = find nat_cmp b es

get_found : (m : FinMap nat_cmp BookValue) (b : ℕ) → get m b ≡ found (entries m) b
get_found m b = get-entries m b

abbrev put_book : ℕ → Option BookValue → Books → Books
put_book b None es = es
put_book b (Some book) es = put nat_cmp b book es

entries_put : (h : Host) (b : ℕ) (book : Option BookValue) → entries (with_book h b book).books ≡ put_book b book (entries h.books)
entries_put h b None = refl
entries_put h b (Some book) = entries-insert nat_cmp_total h.books b book

with_limit : (h : Host) (b : ℕ) (book : Option BookValue) → (with_book h b book).limit ≡ h.limit
with_limit h b None = refl
with_limit h b (Some book) = refl

abbrev listed_rows : Books → ℕ
listed_rows es = sum_by book_row_count (map (λ (e : ℕ × BookValue). e.1) es)

abbrev listed_within : Books → ℕ → ℕ → Outcome → Outcome
listed_within es limit b (Refuses why) = Refuses why
listed_within es limit b (Says out) = Says out
listed_within es limit b (Makes change reply) =
    if nat_lt limit (listed_rows (put_book b (changed_book (found es b) change) es)) then Refuses Full else Makes change reply

abbrev listed_step : Books → ℕ → Stamp → Request → Outcome
listed_step es limit stamp request = listed_within es limit request.book (book_step (found es request.book) 9 request.book stamp request.caller)

abbrev listed_after : Books → ℕ → Outcome → Books
listed_after es b (Refuses why) = es
listed_after es b (Says out) = es
listed_after es b (Makes change reply) = put_book b (changed_book (found es b) change) es

-- the answers of a host with these books
abbrev listed_told : Books → ℕ → List (Stamp × Request) → List (Said ⊥)
listed_told es limit [] = []
listed_told es limit (a ∷ asked) =
    Answered (out_of (listed_step es limit a.0 a.1)) ∷ listed_told (listed_after es a.1.book (listed_step es limit a.0 a.1)) limit asked

within_listed : (h : Host) (es : Books) (b : ℕ) (o : Outcome) → entries h.books ≡ es → within_limit h b o ≡ listed_within es h.limit b o
within_listed h es b (Refuses why) is = refl
within_listed h es b (Says out) is = refl
within_listed h es b (Makes change reply) is =
    ap (λ (l : Books). if nat_lt h.limit (listed_rows l) then Refuses Full else Makes change reply)
    (entries_put h b (changed_book (get h.books b) change) ∙ ap (λ book. put_book b (changed_book book change) (entries h.books)) (get_found h.books b)
    ∙ ap (λ (l : Books). put_book b (changed_book (found l b) change) l) is)

step_listed : (h : Host) (es : Books) (stamp : Stamp) (request : Request) → entries h.books ≡ es
    → host_step h 9 stamp request ≡ listed_step es h.limit stamp request
step_listed h es stamp request is =
    within_listed h es request.book (book_step (get h.books request.book) 9 request.book stamp request.caller) is ∙ ap (λ book. listed_within es h.limit
    request.book (book_step book 9 request.book stamp request.caller)) (get_found h.books request.book ∙ ap (λ (l : Books). found l request.book) is)

after_listed : (h : Host) (es : Books) (b : ℕ) (o : Outcome) → entries h.books ≡ es → entries (host_after h b o).books ≡ listed_after es b o
after_listed h es b (Refuses why) is = is
after_listed h es b (Says out) is = is
after_listed h es b (Makes change reply) is =
    entries_put h b (changed_book (get h.books b) change) ∙ ap (λ book. put_book b (changed_book book change) (entries h.books)) (get_found h.books b)
    ∙ ap (λ (l : Books). put_book b (changed_book (found l b) change) l) is

after_limit : (h : Host) (b : ℕ) (o : Outcome) → (host_after h b o).limit ≡ h.limit
after_limit h b (Refuses why) = refl
after_limit h b (Says out) = refl
after_limit h b (Makes change reply) = with_limit h b (changed_book (get h.books b) change)

told_listed : (h : Host) (es : Books) (asked : List (Stamp × Request)) → entries h.books ≡ es → replies_of_run h asked ≡ listed_told es h.limit asked
told_listed h es [] is = refl
told_listed h es (a ∷ asked) is =
    let step = step_listed h es a.0 a.1 is in
    let next = host_after h a.1.book (host_step h 9 a.0 a.1) in
    let stands : entries next.books ≡ listed_after es a.1.book (listed_step es h.limit a.0 a.1) =
    after_listed h es a.1.book (host_step h 9 a.0 a.1) is ∙ ap (listed_after es a.1.book) step in
    let rest : replies_of_run next asked ≡ listed_told (listed_after es a.1.book (listed_step es h.limit a.0 a.1)) h.limit asked =
    told_listed next _ asked stands
    ∙ ap (λ limit. listed_told (listed_after es a.1.book (listed_step es h.limit a.0 a.1)) limit asked) (after_limit h a.1.book (host_step h 9 a.0 a.1)) in
    ap (λ o. Answered (out_of o) ∷ replies_of_run next asked) step ∙ ap (λ says. Answered (out_of (listed_step es h.limit a.0 a.1)) ∷ says) rest

-- the hosts' books

no_entries : entries (empty {X = BookValue} {R = nat_cmp}) ≡ []
no_entries = no_elements _ (sym (len-entries (empty {X = BookValue} {R = nat_cmp})) ∙ len-empty nat_cmp BookValue)

only : (b : ℕ) (book : BookValue) → entries (insert (empty {X = BookValue} {R = nat_cmp}) b book) ≡ (b, book) ∷ []
only b book = entries-insert nat_cmp_total empty b book ∙ ap (put nat_cmp b book) no_entries

both : entries one_host.books ≡ (7, book_of 5) ∷ (8, book_of 6) ∷ []
both = entries-insert nat_cmp_total (insert empty 8 (book_of 6)) 7 (book_of 5) ∙ ap (put nat_cmp 7 (book_of 5)) (only 8 (book_of 6))

pub returns : goal.returns
unfolding days_of_years days_of_months civil_after due_after
returns c = record {
  shards = record {
    handed_first = refl;
    handed_second = refl;
    handed_third = refl;
    together = told_listed one_host _ asked both;
    first = told_listed (first_shard 1000) _ (handed shard 0 asked) (only 7 (book_of 5));
    second = told_listed second_shard _ (handed shard 1 asked) (only 8 (book_of 6));
    full = told_listed (first_shard 3) _ (handed shard 0 (of_seven 1 a_ring ∷ [])) (only 7 (book_of 5));
  };
}
