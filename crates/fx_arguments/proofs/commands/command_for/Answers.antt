use Rattle.fx_arguments.specs.Arguments.{dump_app, faces_app, make_app, outline_app, show_app, trace_app}
use Rattle.fx_arguments.proofs.commands.command_for.Goals as goal

pub returns-in-Make : goal.returns-in-Make
unfolding make_app
returns-in-Make c = rw c.in-Make.is c.command_with.ensures

pub returns-in-Show : goal.returns-in-Show
unfolding show_app
returns-in-Show c = rw c.in-Show.is c.command_with-in-Show.ensures

pub returns-in-Outline : goal.returns-in-Outline
unfolding outline_app
returns-in-Outline c = rw c.in-Outline.is c.command_with-in-Outline.ensures

pub returns-in-Dump : goal.returns-in-Dump
unfolding dump_app
returns-in-Dump c = rw c.in-Dump.is c.command_with-in-Dump.ensures

pub returns-in-Trace : goal.returns-in-Trace
unfolding trace_app
returns-in-Trace c = rw c.in-Trace.is c.command_with-in-Trace.ensures

pub returns-in-Faces : goal.returns-in-Faces
unfolding faces_app
returns-in-Faces c = rw c.in-Faces.is c.command_with-in-Faces.ensures
