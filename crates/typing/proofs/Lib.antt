mod ChangeLaws
mod ChoiceLaws
mod OpenLaws
