-- The rows are played by the checker.
-- Assumes nothing.
use Rattle.meaning.specs.Lists.{some, every, keep, find, change, first_of, drop_of, none, less, begins}
use Rattle.meaning.specs.Does.{versions_of, set_object, is_removed, bytes_of, current, num_of, meets, in_room_or, gets, removes_one, shown_of, all_shown, set_part, gapless, joined, parts_put, completes, unless_no, aborts, holds, old_kept, tidy, covered, aged, kept, aged_objects, acts, is_tick}
use Rattle.meaning.specs.Examples.{plays, same_reply, same_shown}
use Rattle.meaning.proofs.examples_play.Goals as goal

pub returns : goal.returns
unfolding some every keep find change first_of drop_of none less begins versions_of set_object is_removed bytes_of current num_of meets in_room_or gets removes_one shown_of all_shown set_part gapless joined parts_put completes unless_no aborts holds old_kept tidy covered aged kept aged_objects acts is_tick plays same_reply same_shown
returns c = tt
