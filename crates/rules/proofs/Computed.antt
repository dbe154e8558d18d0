-- `unfolding computed` opens every definition of the specs, so that an example is computed.
use Prim.Native.Nat.{ℕ}
use Rattle.basics.specs.Lists.{count, without, put_at, first_where, all_of, firsts, reads}
use Rattle.basics.specs.Find.{all_below, first_from, first_below, highest_below, rising}
use Rattle.rules.specs.Rows.{field, with_field, with_row, listed, with_listed, behind}
use Rattle.rules.specs.Tables.{task, with_task, messages, with_messages, clock, with_clock, current, levels}
use Rattle.rules.specs.Lines.{line, with_line, out_of, entered, home_by, swi_home, moved}
use Rattle.rules.specs.Answer.{first_given, unused, table_of, named}
use Rattle.rules.specs.Waits.{outside, switch_off, idle, ticks_for}
use Rattle.rules.specs.Tasks.{is_priority, free_task, create_cases, create_effect, delete_cases, delete_effect, set_priority_cases, reprioritized, set_priority_effect, yield_cases, yield_effect, end_cases, end_effect, sleep_cases, sleep_effect, last_result_cases, last_result_effect, task_call}
use Rattle.rules.specs.Swis.{top, is_active, is_named, free_swi, posted, create_cases as swis-create_cases, create_effect as swis-create_effect, delete_cases as swis-delete_cases, delete_effect as swis-delete_effect, post_cases, mask_cases, post_effect, change_effect, zero_effect, end_cases as swis-end_cases, end_effect as swis-end_effect, taken_cases, taken_effect, swi_call}
use Rattle.rules.specs.Semaphores.{free_semaphore, most, create_cases as semaphores-create_cases, create_effect as semaphores-create_effect, delete_cases as semaphores-delete_cases, delete_effect as semaphores-delete_effect, reset_cases, reset_effect, pend_waits, pend_cases, pend_effect, post_cases as semaphores-post_cases, count_up, post_effect as semaphores-post_effect, semaphore_call}
use Rattle.rules.specs.Events.{free_event, matched, create_cases as events-create_cases, create_effect as events-create_effect, delete_cases as events-delete_cases, delete_effect as events-delete_effect, pend_waits as events-pend_waits, pend_cases as events-pend_cases, pend_effect as events-pend_effect, post_cases as events-post_cases, waiter_match, posted_bits, event_call}
use Rattle.rules.specs.Mailboxes.{free_mailbox, waits_first, is_full, create_cases as mailboxes-create_cases, create_effect as mailboxes-create_effect, delete_cases as mailboxes-delete_cases, delete_effect as mailboxes-delete_effect, post_waits, post_cases as mailboxes-post_cases, post_effect as mailboxes-post_effect, pend_waits as mailboxes-pend_waits, pend_cases as mailboxes-pend_cases, oldest_taken, pend_effect as mailboxes-pend_effect, mailbox_call}
use Rattle.rules.specs.Clocks.{free_clock, create_cases as clocks-create_cases, create_effect as clocks-create_effect, delete_cases as clocks-delete_cases, delete_effect as clocks-delete_effect, start_stop_cases, start_effect, stop_effect, clock_call}
use Rattle.rules.specs.Heap.{is_run, lowest_run, block_size, take_cases, take_effect, is_block, give_cases, give_effect, heap_call}
use Rattle.rules.specs.Switches.{off_cases, off_effect, restore_cases, restore_effect, in_cases, in_effect, interrupt_cases, out_effect}
use Rattle.rules.specs.Tick.{aged, clock_tick, task_tick, ticked, switch_call}
use Rattle.rules.specs.Dispatch.{running, context, highest_posted, active_level, swi_due, started, swi_dispatched, highest_ready, front, task_due, task_dispatched, dispatched}
use Rattle.rules.specs.Sound.{other_rule, semaphore_rule, event_rule, mailbox_rule, swi_rule, clock_rule, sound}
use Rattle.rules.specs.Step.{call_of, finished, step, call}
use Rattle.rules.specs.Fresh.{fresh_with, made_fresh}
use Rattle.rules.specs.Log.{read_in, argument_bytes, move_to}
use Rattle.rules.specs.Text.{digits, decimal, thread_text, line_text, text_of}
use Rattle.rules.specs.Replay.{lines_from, replay_lines, replay_text}

unfoldable pub computed : ℕ
unfolding count without put_at first_where all_of firsts reads all_below first_from first_below highest_below rising field with_field with_row listed with_listed behind task with_task messages with_messages clock with_clock current levels line with_line out_of entered home_by swi_home moved first_given unused table_of named outside switch_off idle ticks_for is_priority free_task create_cases create_effect delete_cases delete_effect set_priority_cases reprioritized set_priority_effect yield_cases yield_effect end_cases end_effect sleep_cases sleep_effect last_result_cases last_result_effect task_call top is_active is_named free_swi posted swis-create_cases swis-create_effect swis-delete_cases swis-delete_effect post_cases mask_cases post_effect change_effect zero_effect swis-end_cases swis-end_effect taken_cases taken_effect swi_call free_semaphore most semaphores-create_cases semaphores-create_effect semaphores-delete_cases semaphores-delete_effect reset_cases reset_effect pend_waits pend_cases pend_effect semaphores-post_cases count_up semaphores-post_effect semaphore_call free_event matched events-create_cases events-create_effect events-delete_cases events-delete_effect events-pend_waits events-pend_cases events-pend_effect events-post_cases waiter_match posted_bits event_call free_mailbox waits_first is_full mailboxes-create_cases mailboxes-create_effect mailboxes-delete_cases mailboxes-delete_effect post_waits mailboxes-post_cases mailboxes-post_effect mailboxes-pend_waits mailboxes-pend_cases oldest_taken mailboxes-pend_effect mailbox_call free_clock clocks-create_cases clocks-create_effect clocks-delete_cases clocks-delete_effect start_stop_cases start_effect stop_effect clock_call is_run lowest_run block_size take_cases take_effect is_block give_cases give_effect heap_call off_cases off_effect restore_cases restore_effect in_cases in_effect interrupt_cases out_effect aged clock_tick task_tick ticked switch_call running context highest_posted active_level swi_due started swi_dispatched highest_ready front task_due task_dispatched dispatched other_rule semaphore_rule event_rule mailbox_rule swi_rule clock_rule sound call_of finished step call fresh_with made_fresh read_in argument_bytes move_to digits decimal thread_text line_text text_of lines_from replay_lines replay_text
computed = 0
