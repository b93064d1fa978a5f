-- Lists that are longer than those of a sound book.
use Rattle.pawn_book.proofs.Sounds.{each_at}
use Rattle.pawn_book.specs.Limits.{most_pledges}
use Rattle.pawn_debt.specs.Limits.{most_entries}
use Rattle.pawn_pledge.specs.Limits.{most_extensions}
use Rattle.pawn_pledge.specs.Replayable.{IsReachable}
use Rattle.pawn_table_keeper.specs.Common.{get, cons_option, filter_map, PledgeValue, BookValue, pledge_in, Host}
use Rattle.pawn_table_keeper.specs.Common.{entries_of, extensions_of, pledges_of, part_item, part_items}
use Rattle.pawn_table_keeper.specs.Common.{IsSoundAt, IsUnsoundAt, SheetPart}
use Rattle.std.proofs.Common.{◌≡◌, ◌≤◌, ◌<◌, ℕ, suc, List, [], ◌∷◌, length, Option, Some, None, refl, ap, arith}

-- of a pledge, where the rules bound the list of each that can stand
module _ {T : Type 0} (list : Option PledgeValue → List T) (most : ℕ) (none : list None ≡ [])
    (few : (p : PledgeValue) → IsReachable p → length (list (Some p)) ≤ most) (h : Host) (b n : ℕ) where
  in_book : (k : BookValue) (o : Option PledgeValue) → pledge_in (Some k) n ≡ o → most < length (list o) → IsSoundAt b k → ⊥
  in_book k None is above sound = let empty = ap length none in absurd (omega (arith, above, empty))
  in_book k (Some p) is above sound = let within = few p (each_at IsReachable 1 k.pledges n p sound.1.rows.reachable is) in absurd (omega (
    arith,
    above,
    within,
  ))

  pub too_many : most < length (list (pledge_in (get h.books b) n)) → IsUnsoundAt b h
  too_many above = of_book (get h.books b) refl above where
    of_book : (o : Option BookValue) → get h.books b ≡ o → most < length (list (pledge_in o n)) → IsUnsoundAt b h
    of_book None is above = let empty = ap length none in absurd (omega (arith, above, empty))
    of_book (Some k) is above = (k, is, in_book k (pledge_in (Some k) n) refl above)

pub too_many_entries : (h : Host) (b n : ℕ) → most_entries < length (entries_of (pledge_in (get h.books b) n)) → IsUnsoundAt b h
too_many_entries = too_many entries_of most_entries refl (λ p reachable. reachable.within.entries)

pub too_many_extensions : (h : Host) (b n : ℕ) → most_extensions < length (extensions_of (pledge_in (get h.books b) n)) → IsUnsoundAt b h
too_many_extensions = too_many extensions_of most_extensions refl (λ p reachable. reachable.within.extensions)

-- of a book
pub too_many_pledges : (h : Host) (b : ℕ) → most_pledges < length (pledges_of (get h.books b)) → IsUnsoundAt b h
too_many_pledges h b above = of_book (get h.books b) refl above where
  of_book : (o : Option BookValue) → get h.books b ≡ o → most_pledges < length (pledges_of o) → IsUnsoundAt b h
  of_book None is above = absurd (omega (arith, above))
  of_book (Some k) is above = (k, is, λ sound. let few = sound.1.rows.few_pledges in absurd (omega (arith, above, few)))

-- the lines of a part are no more than the pledges
shown_at_most : {A B : Type 0} (f : A → Option B) (xs : List A) → length (filter_map f xs) ≤ length xs
shown_at_most f [] = omega arith
shown_at_most f (x ∷ xs) = let rest = shown_at_most f xs in one (f x) (filter_map f xs) (length xs) rest where
  one : {B : Type 0} (o : Option B) (ys : List B) (n : ℕ) → length ys ≤ n → length (cons_option o ys) ≤ suc n
  one None ys n few = omega (arith, few)
  one (Some y) ys n few = omega (arith, few)

pub too_many_lines : (h : Host) (b day : ℕ) (part : SheetPart) → most_pledges < length (part_items part day (pledges_of (get h.books b))) → IsUnsoundAt b h
too_many_lines h b day part above = let few = shown_at_most (part_item part day) (pledges_of (get h.books b)) in
    too_many_pledges h b (omega (arith, above, few))
