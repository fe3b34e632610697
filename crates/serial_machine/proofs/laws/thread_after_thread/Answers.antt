use Rattle.serial_machine.proofs.ThreadByThread.{is_thread_after_thread}
use Rattle.serial_machine.proofs.laws.thread_after_thread.Goals as goal

pub returns : goal.returns
returns c = is_thread_after_thread
