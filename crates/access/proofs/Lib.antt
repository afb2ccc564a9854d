mod FieldLaws
mod CallLaws
