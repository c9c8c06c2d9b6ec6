use Rattle.gnocchi_run.proofs.Available.{connection_available, script_available}
use Rattle.gnocchi_run.proofs.laws.working_disks_answer.Goals as goal

pub returns-clause-script : goal.returns-clause-script
returns-clause-script g c = λ start sacks old new left_before left_after taken_before taken_after status.
    script_available g.D.Disk c.disks_that_work_show_no_fault.ensures.before c.disks_that_work_show_no_fault.ensures.unseen c.ready_disks_are_opened.ensures.made c.ready_disks_are_opened.ensures.found c.what_failed_is_seen.ensures.later
    left_before left_after taken_before taken_after c.lines_go_on.ensures c.without_faults_answered.ensures start sacks old new status

pub returns-clause-connection : goal.returns-clause-connection
returns-clause-connection g c = λ start sacks old new left_before left_after taken_before taken_after status.
    connection_available g.D.Disk c.disks_that_work_show_no_fault.ensures.before c.disks_that_work_show_no_fault.ensures.unseen c.ready_disks_are_opened.ensures.made c.ready_disks_are_opened.ensures.found c.what_failed_is_seen.ensures.later
    left_before left_after taken_before taken_after c.requests_go_on.ensures.request c.requests_go_on.ensures.messages c.without_faults_available.ensures.connection start sacks old new status
