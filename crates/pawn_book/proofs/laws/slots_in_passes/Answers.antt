use Rattle.pawn_book.proofs.SlotRuns.{slots_answer_alone, slots_are_held}
use Rattle.pawn_book.proofs.laws.slots_in_passes.Goals as goal

pub returns : goal.returns
returns g c = record {
  keeping = record {
    held = λ h operator b slot events n one all. slots_are_held h operator b slot events n;
    alone = λ h operator b slot before stamp asked one all. slots_answer_alone h operator b slot before stamp asked;
  };
  bringing = record {
    held = λ h operator b slot events n one all. slots_are_held h operator b slot events n;
    alone = λ h operator b slot before stamp asked one all. slots_answer_alone h operator b slot before stamp asked;
  };
  replacing = record {
    held = λ h operator b slot events n one all. slots_are_held h operator b slot events n;
    alone = λ h operator b slot before stamp asked one all. slots_answer_alone h operator b slot before stamp asked;
  };
  several = record {
    held = λ h operator b slot events n one all. slots_are_held h operator b slot events n;
    alone = λ h operator b slot before stamp asked one all. slots_answer_alone h operator b slot before stamp asked;
  };
}
