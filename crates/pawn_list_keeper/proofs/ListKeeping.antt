-- What a list of books says of its host.
use Rattle.pawn_book.proofs.Sounds.{reachable_at}
use Rattle.pawn_book.specs.Sound.{IsSound}
use Rattle.pawn_list_keeper.proofs.ListReads.{get-book_at}
use Rattle.pawn_list_keeper.specs.Books.{Books}
use Rattle.pawn_list_keeper.specs.Common.{BookValue, Host, IsNextBook, IsReachable, PledgeValue, Reads, pledge_in}
use Rattle.pawn_list_keeper.specs.Listed.{IsLeastAbove, book_at, host_of, list_keeping}
use Rattle.std.proofs.Common.{◌≡◌, ◌∙◌, ℕ, ap, sym, subst, None, Option, Some, IfSome}
use Rattle.std.specs.FinMap.{get}

-- a read returns what is true of the list's host
pub list_reads : (k : Books) (P : Host → Type 0) → P (host_of k) → Reads list_keeping k k P
list_reads k P told = record {
  on = record { was_honest = λ honest. honest; was_usable = λ honest now. now; stays = λ steady. steady; whole = λ honest whole. whole };
  same = λ honest h is. is;
  back = λ honest now h is. is;
  states = λ honest h is. subst P (sym is) told;
  crash = λ honest h left. left;
}

-- the book that is read from the fields
pub book_read : (k v : Books) (b : ℕ) → k ≡ v → book_at k.books b ≡ get (host_of v).books b
book_read k v b is = sym (get-book_at k.books b) ∙ ap (λ (o : Books). get (host_of o).books b) is

-- a pledge that a sound host has is reachable
pub read_reachable : (h : Host) (b n : ℕ) (o : Option PledgeValue) → IsSound h → o ≡ pledge_in (get h.books b) n → IfSome o IsReachable
read_reachable h b n None sound is = tt
read_reachable h b n (Some p) sound is = (reachable_at h b n p sound (sym is)).0

-- the least number above one, as the host has it
pub next_read : (k v : Books) (after : ℕ) (next : Option ℕ) → k ≡ v → IsLeastAbove k.books after next → IsNextBook (host_of v) after next
next_read k v after next is least = subst (λ (o : Books). IsNextBook (host_of o) after next) is (from next least) where
  listed : (b : ℕ) (book : BookValue) → get (host_of k).books b ≡ Some book → book_at k.books b ≡ Some book
  listed b book stands = sym (get-book_at k.books b) ∙ stands

  from : (o : Option ℕ) → IsLeastAbove k.books after o → IsNextBook (host_of k) after o
  from None none = λ b book stands. none b book (listed b book stands)
  from (Some n) least = (least.0, (least.1.0, get-book_at k.books n ∙ least.1.1), λ b book stands. least.2 b book (listed b book stands))
