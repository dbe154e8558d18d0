-- `put_trace` meets its contract: the call, twelve parts, each behind its bar, and the end of the line.
use Rattle.text.proofs.Puts.{put-more}
use Rattle.trace_changes.specs.Line.{trace_line, parts}
use Rattle.trace_changes.proofs.Telling.{part-first, part-last, parts_more}
use Rattle.trace_line.proofs.Lengths.{trace-most}
use Rattle.trace_line.proofs.put_trace.Goals as goal

pub returns : goal.returns
unfolding trace_line parts
returns c =
    let others =
    part-first _ _ c.put_bar-r.ensures c.put_rows-after_r.ensures
    (part-first _ _ c.put_bar-c.ensures c.put_clocks-after_c.ensures
    (part-last _ c.put_bar-h.ensures c.put_heap-others.ensures)) in
    let told =
    part-first _ _ c.put_bar-s.ensures c.put_state-after_s.ensures
    (part-first _ _ c.put_bar-t.ensures c.put_tasks-after_t.ensures
    (part-first _ _ c.put_bar-p.ensures c.put_posts-after_p.ensures
    (part-first _ _ c.put_bar-d.ensures c.put_started-after_d.ensures
    (part-first _ _ c.put_bar-w.ensures c.put_posted-after_w.ensures
    (part-first _ _ c.put_bar-a.ensures c.put_line-threads.ensures
    (parts_more _ _ c.put_waited-waited.ensures others)))))) in
    record {
      put = put-more c.put_call-told.ensures (put-more told c.put_byte.ensures);
      short = trace-most _ _ _ c.are_typical.ensures;
    }
