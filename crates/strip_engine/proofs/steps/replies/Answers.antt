use Rattle.std.proofs.Common.{refl}
use Rattle.strip_value.specs.declared.acts.Act.TheVariants.{Select, Show}
use Rattle.strip_engine.proofs.Asked.{query_suits_those}
use Rattle.strip_engine.proofs.Restores.{reply_counted, reply_refused, reply_read}
use Rattle.strip_engine.proofs.steps.replies.Goals as goal

-- a query that is asked suits the tables
pub select-requires : goal.select-requires
select-requires c = rw c.as_slice.ensures.value (query_suits_those c.args.tables.now.items c.args.act.now c.in-Select.query c.in-Select.is c.requires.asked)

pub returns-in-None : goal.returns-in-None
returns-in-None c =
    let put = rw c.in-None.is at c.in_ok-put-in-Put.ensures in
    reply_counted c.args.holds.now c.args.tables.now.items c.args.log.now.items c.args.act.now c.in-Put.table c.in-Put.row c.put.new.tables.items c.put.new.log.items c.in-Put.is put

pub returns-in-Some : goal.returns-in-Some
returns-in-Some c =
    let put = rw c.in-Some.is at c.in_ok-put-in-Put.ensures in
    reply_refused c.args.holds.now c.args.tables.now.items c.args.log.now.items c.args.act.now c.in-Put.table c.in-Put.row c.put.new.tables.items c.put.new.log.items c.in-Some.cause c.twice.result c.in-Put.is put c.twice.ensures

pub returns-in_ok-reply-in-Select : goal.returns-in_ok-reply-in-Select
returns-in_ok-reply-in-Select c =
    let answered = rw c.as_slice.ensures.value at c.in_ok-reply-in-Select.ensures in
    reply_read c.args.holds.now c.args.tables.now.items c.args.log.now.items c.args.act.now (Select c.in-Select.query) c.in_ok-reply-in-Select.reply c.twice-in-Select.result c.in-Select.is refl refl answered c.twice-in-Select.ensures

pub returns-in_ok-reply-in-Show : goal.returns-in_ok-reply-in-Show
returns-in_ok-reply-in-Show c =
    let shown = rw c.as_slice-in-Show.ensures.value at c.in_ok-reply-in-Show.ensures in
    reply_read c.args.holds.now c.args.tables.now.items c.args.log.now.items c.args.act.now (Show c.in-Show.table) c.in_ok-reply-in-Show.reply c.twice-in-Show.result c.in-Show.is refl refl shown c.twice-in-Show.ensures
