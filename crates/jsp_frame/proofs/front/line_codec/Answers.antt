use Rattle.std.proofs.Common.{ap, ◌∙◌}
use Rattle.tokio_util.specs.Codec.LengthField.{Layout, with_reachable_limit}
use Rattle.jsp_frame.proofs.Cutting.{with_reachable_limit-layout_within}
use Rattle.jsp_frame.proofs.front.line_codec.Goals as goal

pub returns : goal.returns
returns c = record {
  layout = c.new_codec.ensures.frames
      ∙ ap with_reachable_limit (c.max_frame_length.ensures ∙ ap (λ (l : Layout). record l { max_frame_len = c.args.limit }) c.builder.ensures)
      ∙ with_reachable_limit-layout_within c.args.limit c.ranges.limit.fits;
  at_head = c.new_codec.ensures.state;
  fits = c.ranges.limit.fits;
}
