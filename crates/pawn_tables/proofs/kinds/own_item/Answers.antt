use Rattle.pawn_book.specs.declared.items.RowItem.{RowItem}
use Rattle.pawn_tables.proofs.RowReading.{rules, sym, read_other}
use Rattle.pawn_tables.proofs.kinds.own_item.Goals as goal

pub returns-in_err-pledge : goal.returns-in_err-pledge
returns-in_err-pledge c = record {
  read = λ q more at is. let r = read_other _ _ (RowItem.Pledge q) _ _ (λ told. told) (c.in_err-pledge.ensures.read q more is) in search rules;
}

pub returns : goal.returns
returns c = record {
  read = λ q more at is. let r = c.in_ok-pledge.ensures.read q more is in let n = sym at in
      λ i. RowItem.Pledge (record {
        number = n i;
        opening = (r i).opening;
        taken = (r i).taken;
        version = (r i).version;
        ends = (r i).ends;
        held = (r i).held;
        last = (r i).last;
        closing = (r i).closing;
      });
}
