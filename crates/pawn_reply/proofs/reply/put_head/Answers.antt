use Rattle.pawn_reply.proofs.PutLemmas.{put_before}
use Rattle.pawn_reply.specs.Reply.{head_text}
use Rattle.std.proofs.Common.{rules, ◌≡◌, ◌∙◌, ◌++◌, ap, sym, length, List, ℕ}
use Rattle.pawn_reply.proofs.reply.put_head.Goals as goal

pub returns : goal.returns
returns c = let long : c.len.result ≡ length c.args.text.items = search rules in record {
  text = put_before c.rotate_right.new.self c.as_mut_slice.result.now c.extend_from_slice.new.self.items c.args.text.items c.as_bytes.result.now c.len-2.result
      c.extend_from_slice.new.self.len c.as_mut_slice.ensures.value c.in_ok-extend_from_slice.ensures.items (c.len-2.ensures ∙ sym c.as_bytes.ensures.len)
      (search rules) c.rotate_right.ensures.after ∙ ap (λ (h : List ℕ). h ++ c.args.text.items) (c.as_bytes.ensures.value ∙ c.in_ok-head.ensures.text
      ∙ ap (λ (n : ℕ). head_text 200 n c.args.kind.now) long);
}
