use Rattle.pawn_book.specs.declared.items.RowItem.{RowItem}
use Rattle.pawn_tables.proofs.RowReading.{Err, [], ap, rules, err_finds, ◌∙◌, ◌≡◌}
use Rattle.std.proofs.Common.{◌++◌, ◌∷◌}
use Rattle.pawn_tables.specs.Finding.{Finds}
use Rattle.pawn_tables.specs.Kinds.{IsItemDecodable}
use Rattle.pawn_tables.proofs.kinds.add_item.Goals as goal

pub returns-in_err-item : goal.returns-in_err-item
returns-in_err-item c = record {
  read = λ i such is. let e : Finds {A = Unit {0}} (Err c.in_err-item.field-0.0) (λ u. c.args.items.now.items ≡ c.args.items.now.items ++ i ∷ [])
      (IsItemDecodable i → ⊥) = err_finds c.in_err-item.field-0.0 (λ (x : RowItem). x ≡ i) (λ u. c.args.items.now.items ≡ c.args.items.now.items ++ i ∷ [])
      (IsItemDecodable i → ⊥) (c.in_err-item.ensures.read i such is) in
      search rules;
}

pub returns-in-Ok : goal.returns-in-Ok
returns-in-Ok c = record {
  read = λ i such is. rw c.in-Ok.is at c.push_item.ensures.value ∙ ap (λ (x : RowItem). c.args.items.now.items ++ x ∷ []) (c.in_ok-item.ensures.read i such is);
}
