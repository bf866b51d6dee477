use Rattle.vx_base.specs.DTypes.{dtype_meaning}
use Rattle.vx_tree.specs.Parts.{valid_of}
use Rattle.vx_canonical.proofs.JoinedViews.{views_joined}
use Rattle.vx_canonical.proofs.layouts.var_bin_view.join_views.Goals as goal

pub buffer_count-count-requires-clause-resolved : goal.buffer_count-count-requires-clause-resolved
buffer_count-count-requires-clause-resolved c = λ k d l. (c.requires.values k d l).resolved

pub joined_buffers-requires : goal.joined_buffers-requires
joined_buffers-requires c = λ k d l. (c.requires.values k d l).resolved

pub joined_views-requires-clause-resolved : goal.joined_views-requires-clause-resolved
joined_views-requires-clause-resolved c = λ k d l. (c.requires.values k d l).resolved

pub joined_views-requires-clause-few : goal.joined_views-requires-clause-few
joined_views-requires-clause-few c = c.requires.few

pub var_bin_view-requires : goal.var_bin_view-requires
var_bin_view-requires c =
    rw c.in_ok-dtype.ensures (views_joined (dtype_meaning c.args.dtype.now) c.args.arrays.now c.in_ok-views.views c.in_ok-buffers.buffers.items (valid_of c.args.validity) c.requires.values
    c.requires.few c.in_ok-views.ensures c.in_ok-buffers.ensures c.requires.kind c.requires.valid).1

pub returns-clause-joined : goal.returns-clause-joined
returns-clause-joined c =
    rw (c.in_ok-var_bin_view.ensures, c.in_ok-dtype.ensures) (views_joined (dtype_meaning c.args.dtype.now) c.args.arrays.now c.in_ok-views.views c.in_ok-buffers.buffers.items (valid_of c.args.validity) c.requires.values
    c.requires.few c.in_ok-views.ensures c.in_ok-buffers.ensures c.requires.kind c.requires.valid).0

pub returns-clause-numbers : goal.returns-clause-numbers
returns-clause-numbers c = rw c.in_ok-var_bin_view.ensures (c.in_ok-views.ensures, c.in_ok-buffers.ensures)
