use Rattle.std.proofs.Common.{refl, ap, ◌∙◌, inl, inr, take}
use Rattle.tdm_desk.specs.Counts.{write_counted}
use Rattle.tdm_desk.proofs.CountLaws.{writing_failed_later}
use Rattle.command_run.proofs.OutputLaws.{puts, said-whole, said-part}
use Rattle.command_run.proofs.writing.put_out.Goals as goal

pub returns-in-Ok-say_whole : goal.returns-in-Ok-say_whole
returns-in-Ok-say_whole g c =
    puts _ _ g.T.OutputText.text c.args.texts.now _ _ _ _ _ _ c.args.report.now c.write_files.ensures.only
    c.write_files.ensures.counted c.say_whole.ensures.counted c.in-Ok-say_whole.ensures.ok
    (inl (said-whole _ _ g.T.OutputText.text c.args.texts.now _ _ _ _ _ _ c.args.report.now c.in-Ok.ensures.ok
    c.in-Ok.ensures.closed c.in-Ok-say_whole.ensures.ok refl
    (c.in-Ok-say_whole.ensures.own ∙ c.in-Ok.ensures.own)))

pub returns-in-Err-Failed-say_whole : goal.returns-in-Err-Failed-say_whole
returns-in-Err-Failed-say_whole g c =
    let part = c.in-Err-Failed-say_whole.ensures.err in
    puts _ _ g.T.OutputText.text c.args.texts.now _ _ _ _ _ _ (take part.0 c.args.report.now)
    c.write_files.ensures.only c.write_files.ensures.counted c.say_whole.ensures.counted part.2
    (inr (said-part _ _ g.T.OutputText.text c.args.texts.now _ _ _ _ _ _ (take part.0 c.args.report.now)
    c.in-Ok.ensures.ok part
    (inl (
      c.write_fault.ensures,
      writing_failed_later c.write_files.ensures.counted
          ((rw c.in-Err-Failed-say_whole.field-0-is at c.in-Err-Failed-say_whole.ensures.failed) refl),
      (rw c.in-Err-Failed-say_whole.field-0-is at c.in-Err-Failed-say_whole.ensures.own)
          ∙ ap write_counted c.in-Ok.ensures.own,
    ))))

pub returns-in-Err-NoMemory-say_whole : goal.returns-in-Err-NoMemory-say_whole
returns-in-Err-NoMemory-say_whole g c =
    let part = c.in-Err-NoMemory-say_whole.ensures.err in
    puts _ _ g.T.OutputText.text c.args.texts.now _ _ _ _ _ _ (take part.0 c.args.report.now)
    c.write_files.ensures.only c.write_files.ensures.counted c.say_whole.ensures.counted part.2
    (inr (said-part _ _ g.T.OutputText.text c.args.texts.now _ _ _ _ _ _ (take part.0 c.args.report.now)
    c.in-Ok.ensures.ok part
    (inr (
      c.out_of_memory.ensures,
      (rw c.in-Err-NoMemory-say_whole.field-0-is at c.in-Err-NoMemory-say_whole.ensures.own)
          ∙ c.in-Ok.ensures.own,
    ))))
