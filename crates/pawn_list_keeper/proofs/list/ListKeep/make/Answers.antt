use Rattle.pawn_book.specs.Sound.{IsSound}
use Rattle.pawn_list_keeper.proofs.ListSaves.{change_counted, change_fits, change_full, change_saved}
use Rattle.pawn_list_keeper.specs.Listed.{Fits, added_rows, host_of, listed_book, replaced_rows}
use Rattle.pawn_list_keeper.specs.declared.kept.Kept.{Kept}
use Rattle.std.proofs.Common.{◌≡◌, ◌+◌, ◌≤◌, List, arith, map, refl, subst, sym}
use Rattle.pawn_list_keeper.proofs.list.ListKeep.make.Goals as goal

pub rows_with-rows-requires : goal.rows_with-rows-requires
rows_with-rows-requires c = record {
  counted = subst (λ (ks : List Kept). replaced_rows (map listed_book ks) c.args.change.now ≤ c.self.inside.rows + added_rows c.args.change.now)
      (sym c.deref.ensures.value) (change_counted _ c.args.self.now _ c.args.change.now c.self.invariant c.self.view_is c.requires.can_save);
  fits = subst (λ (ks : List Kept). Fits (map listed_book ks) c.args.change.now) (sym c.deref.ensures.value)
      (change_fits _ c.args.self.now c.args.change.now c.self.view_is c.requires.can_save);
}

pub returns-then-rows-from : goal.returns-then-rows-from
returns-then-rows-from c = record {
  saves = (
      let sums = subst (λ (ks : List Kept). c.rows_with-rows.result + replaced_rows
      (map listed_book ks) c.args.change.now ≡ c.self.inside.rows + added_rows c.args.change.now) c.deref.ensures.value c.rows_with-rows.ensures.rows in
      let limit = c.from.ensures in let over = c.if-rows-from.true in
      change_full _ c.args.self.now _ c.rows_with-rows.result c.args.change.now c.self.invariant c.self.view_is c.requires.can_save sums
      (omega (arith, over, limit)));
  sound = subst (λ k. IsSound (host_of k)) c.self.view_is c.self.invariant.sound;
}

pub make_change-requires : goal.make_change-requires
make_change-requires c = record { fits = change_fits _ c.args.self.now c.args.change.now c.self.view_is c.requires.can_save }

pub invariant_of-self-2 : goal.invariant_of-self-2
invariant_of-self-2 c =
    let sums = subst (λ (ks : List Kept). c.rows_with-rows.result + replaced_rows
    (map listed_book ks) c.args.change.now ≡ c.self.inside.rows + added_rows c.args.change.now) c.deref.ensures.value c.rows_with-rows.ensures.rows in
    let limit = c.from.ensures in let room = c.if-rows-from.false in
    (change_saved _ c.args.self.now (record { books = map listed_book c.make_change.new.books.items; limit = c.self.inside.limit }) _ c.rows_with-rows.result
    c.args.change.now c.self.invariant c.self.view_is c.requires.can_save c.in-Ok.ensures.ok refl sums (omega (arith, room, limit))).0

pub returns : goal.returns
returns c = record {
  saves = (
      let sums = subst (λ (ks : List Kept). c.rows_with-rows.result + replaced_rows
      (map listed_book ks) c.args.change.now ≡ c.self.inside.rows + added_rows c.args.change.now) c.deref.ensures.value c.rows_with-rows.ensures.rows in
      let limit = c.from.ensures in let room = c.if-rows-from.false in
      (change_saved _ c.args.self.now (record { books = map listed_book c.make_change.new.books.items; limit = c.self.inside.limit }) _ c.rows_with-rows.result
      c.args.change.now c.self.invariant c.self.view_is c.requires.can_save c.in-Ok.ensures.ok refl sums (omega (arith, room, limit))).1);
  sound = (
      let sums = subst (λ (ks : List Kept). c.rows_with-rows.result + replaced_rows
      (map listed_book ks) c.args.change.now ≡ c.self.inside.rows + added_rows c.args.change.now) c.deref.ensures.value c.rows_with-rows.ensures.rows in
      let limit = c.from.ensures in let room = c.if-rows-from.false in
      (change_saved _ c.args.self.now (record { books = map listed_book c.make_change.new.books.items; limit = c.self.inside.limit }) _ c.rows_with-rows.result
      c.args.change.now c.self.invariant c.self.view_is c.requires.can_save c.in-Ok.ensures.ok refl sums (omega (arith, room, limit))).0.sound);
}
