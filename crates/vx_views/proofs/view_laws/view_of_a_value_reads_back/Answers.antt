use Rattle.vx_views.proofs.Places.{view_reads_back}
use Rattle.vx_views.proofs.view_laws.view_of_a_value_reads_back.Goals as goal

pub returns-clause-resolves : goal.returns-clause-resolves
returns-clause-resolves c = λ buffers value block offset h k l stands. (view_reads_back buffers value block offset h k l stands).resolves

pub returns-clause-reads_back : goal.returns-clause-reads_back
returns-clause-reads_back c = λ buffers value block offset h k l stands. (view_reads_back buffers value block offset h k l stands).reads
